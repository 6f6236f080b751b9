-- Laws of lists, of tests, of work step by step, of ranges, of the words of rows, of integers and magnitudes, of bucket tables, and of the tests of slices.
pub mod Lists
pub mod Joined
pub mod Runs
pub mod Ranges
pub mod Words
pub mod Integers
pub mod Magnitudes
pub mod Rows
pub mod Tables
pub mod Slices
pub mod Offsets
pub mod Compared
pub mod Same
pub mod Latest
pub mod Buckets
