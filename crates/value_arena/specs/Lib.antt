-- What the contracts of the arena's functions say.
pub mod Calls
