-- Laws for the proofs of a number's bits.
pub mod Bits
