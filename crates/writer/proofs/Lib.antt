-- Laws for the proofs of the writers, here and above.
pub mod Steps
pub mod Integers
pub mod Names
pub mod Scalars
pub mod Members
pub mod Shorts
