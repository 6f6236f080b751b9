-- Laws for the proofs of load.
pub mod Whole
