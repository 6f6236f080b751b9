-- Inputs that go on: the readers, the call, and dumps one after the other.
pub mod Readers
pub mod Longer
pub mod Stream
