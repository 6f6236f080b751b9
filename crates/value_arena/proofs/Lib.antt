-- Laws for the proofs of the arena's functions.
pub mod Getters
pub mod Building
