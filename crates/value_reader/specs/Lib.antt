-- What the readers of values read.
pub mod Root
