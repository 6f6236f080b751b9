-- What the proofs share: keys, values and pairs by the words of the tables; the last pair with a name; a call step by step.
pub mod Rows
pub mod Lines
pub mod Steps
pub mod Hashes
