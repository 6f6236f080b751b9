-- Laws for the proofs.
pub mod Signs
mod Left
