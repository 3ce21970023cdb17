-- What the proofs of several functions share.
pub mod Done
pub mod Unique
