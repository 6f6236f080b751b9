-- What the root's writer has to meet.
pub mod Whole
