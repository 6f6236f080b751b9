-- Laws for the proofs of what opens values.
pub mod Heads
pub mod Bodies
pub mod Variables
