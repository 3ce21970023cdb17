-- What the proofs of several functions share.
pub mod Command
pub mod Unique
