-- Load reads back what dump writes.
pub mod Codec
pub mod Steps
pub mod Input
pub mod Items
pub mod Leaves
pub mod Boxes
pub mod Strings
pub mod Bignums
pub mod Complete
pub mod Back
