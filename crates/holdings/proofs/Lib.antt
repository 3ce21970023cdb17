-- What the proofs of several functions share.
pub mod Marks
pub mod Unique
