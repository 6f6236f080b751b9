-- Laws of stores, for the proofs here and above.
pub mod Laws
