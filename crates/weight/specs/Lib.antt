-- What the contracts say of a node that is read.
pub mod Tables
