-- What these functions are proved against.
pub mod Parts
pub mod Classes
