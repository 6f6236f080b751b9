-- Laws for the proofs of these functions, and of those above.
pub mod Looked
pub mod Turns
pub mod Probing
