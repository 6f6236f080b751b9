-- Laws for the proofs of the tests.
pub mod Tests
pub mod Answers
pub mod Slices
