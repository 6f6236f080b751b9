-- What the contracts say by words of the tables: pairs, and the last of a name.
pub mod Tables
