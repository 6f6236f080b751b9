-- What the proofs share: a text's digits one by one, and what the text reads as.
pub mod Laws
pub mod Texts
