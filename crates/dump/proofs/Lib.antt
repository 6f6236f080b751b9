-- Laws for the proofs of dump.
pub mod Loops
pub mod Whole
