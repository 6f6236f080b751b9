-- Laws for the proofs of what is added and found.
pub mod Adding
pub mod Names
