-- Laws for the proofs of cost_input.
pub mod Loads
pub mod Shape
