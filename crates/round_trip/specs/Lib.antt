-- Demand 3: its statement and its proof.
pub mod Statement
pub mod Space
pub mod Theorem
pub mod Loaded
pub mod Graphs
pub mod Print
pub mod Equal
pub mod FormStatement
pub mod FormTheorem
pub mod Called
