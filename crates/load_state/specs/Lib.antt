-- What is held: the relation between what is lent, how far a load has come and a state, and its laws.
pub mod Holds
pub mod Stores
pub mod Names
pub mod Hashing
pub mod Interned
pub mod Behind
pub mod Laws
pub mod Changed
pub mod Needs
