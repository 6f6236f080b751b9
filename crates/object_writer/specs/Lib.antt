-- What the contracts say of an object's beginning, and how it and the rest compose.
pub mod Values
pub mod Laws
