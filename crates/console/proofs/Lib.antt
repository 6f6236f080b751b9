-- Laws of the programs' load.
pub mod Laws
