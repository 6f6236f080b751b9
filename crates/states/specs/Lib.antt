-- A load's states seen as nodes.
pub mod Rows
pub mod States
pub mod Right
pub mod Symbols
