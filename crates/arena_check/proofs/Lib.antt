-- Laws for the proofs of the check.
pub mod Rows
pub mod Lists
pub mod Rights
