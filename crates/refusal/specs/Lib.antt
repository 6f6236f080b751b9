-- Numbers in code as the definitions have them.
pub mod Shown
