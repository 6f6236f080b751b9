-- Doubles and weighings: how near a rounded fraction is, what a decimal's double is, and what a weighing keeps.
pub mod Values
pub mod Rounding
pub mod Nearest
pub mod Grammar
pub mod Decimals
pub mod Readings
pub mod Weighings
