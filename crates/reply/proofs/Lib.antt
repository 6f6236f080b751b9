-- Laws for the proofs of the tellers.
pub mod Answers
pub mod Words
