-- Which refusal a reader's answer is, and integers at an offset.
pub mod Answers
pub mod Integers
pub mod From
