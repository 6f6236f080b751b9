-- Laws for the proof of redump.
pub mod Laws
