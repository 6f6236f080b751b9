-- What the proofs share: a node's reading by its words, and a weighing step by step.
pub mod Rows
pub mod Steps
