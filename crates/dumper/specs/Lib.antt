-- What the contracts say of a value's members, and of the slices that dump takes.
pub mod Members
pub mod Lengths
