-- What the programs' load of an input answers.
pub mod Call
