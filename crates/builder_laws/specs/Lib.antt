-- The builder: what an accepted call leaves is well formed, keeps what was there and holds the node created; `replace_class` changes a class alone.
pub mod Tables
pub mod Grown
pub mod Append
pub mod Checks
pub mod Calls
pub mod Built
pub mod New
pub mod Classes
pub mod Answers
