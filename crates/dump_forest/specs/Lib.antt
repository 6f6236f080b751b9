-- Dump and the forests that describe an arena; same graph.
pub mod Writers
pub mod Sound
pub mod Shown
pub mod Complete
pub mod Same
pub mod Alike
pub mod Space
pub mod Call
pub mod Answers
