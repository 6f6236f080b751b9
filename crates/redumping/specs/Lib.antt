-- What redump answers.
pub mod Redump
pub mod Same
