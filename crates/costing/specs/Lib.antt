-- What the program cost answers.
pub mod Batch
