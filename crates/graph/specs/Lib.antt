-- Graphs, the forests that describe them, and building.
pub mod Sums
pub mod Forest
pub mod Describe
pub mod Build
pub mod View
