-- What the proofs of several functions share.
pub mod Rest
pub mod Unique
