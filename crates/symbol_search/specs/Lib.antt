-- What these functions are proved against.
pub mod Search
