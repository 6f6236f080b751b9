-- What an accepted load did.
pub mod Trace
pub mod Readers
pub mod Frames
pub mod Bytes
pub mod Signs
pub mod Spelling
pub mod Sound
pub mod Kept
pub mod Right
pub mod Space
pub mod Names
pub mod Call
pub mod Measured
pub mod Hashed
