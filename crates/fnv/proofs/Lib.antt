-- What the proofs share: exclusive-or of 32 bits, and a hash as a fold.
pub mod Laws
