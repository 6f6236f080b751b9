-- What the proofs share: bytes of an input as a number, integers in dump form, the header, answers at an offset, walks over a reader.
pub mod Bytes
pub mod Forms
pub mod Headers
pub mod Froms
