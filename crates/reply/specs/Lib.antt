-- What each function for C returns and leaves.
pub mod Reply
pub mod Once
