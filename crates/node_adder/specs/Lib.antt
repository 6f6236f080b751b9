-- What the contracts of what is added and found say.
pub mod Added
