-- Nodes at their places, what a well formed arena is, and what the tests of a call say.
pub mod Nodes
pub mod Right
pub mod Checks
pub mod Recipes
