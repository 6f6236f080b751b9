-- Laws for the proofs of these functions, and of those above.
pub mod Leaves
pub mod Bignums
pub mod Classes
