-- What these functions are proved against.
pub mod Run
