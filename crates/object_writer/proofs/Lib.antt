-- Laws for the proofs of what opens objects.
pub mod Objects
pub mod Openings
