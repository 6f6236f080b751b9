-- What the check's contracts say.
pub mod Held
