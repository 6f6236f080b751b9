-- What the proofs share: the bytes of a magnitude.
pub mod Laws
