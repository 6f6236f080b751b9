-- What the writers' contracts say, and how writers compose.
pub mod Held
pub mod Laws
