-- What the contracts of the tests say.
pub mod Tests
