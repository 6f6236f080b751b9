-- What load's contract is written with.
pub mod Call
