-- What the proofs of several functions share.
pub mod Byte
pub mod Reading
pub mod Unique
