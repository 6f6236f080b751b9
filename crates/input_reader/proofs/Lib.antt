-- Laws for the proofs of these functions, and of those above.
pub mod Input
pub mod Heads
