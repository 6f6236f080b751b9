-- What a recipe costs: each pair to the nearest cent, a sum that fits 64 bits, and the same sum whatever the order of the pairs.
pub mod Rounding
pub mod Sums
pub mod Calls
pub mod Bound
pub mod Finds
pub mod Same
