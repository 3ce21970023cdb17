-- What the proofs of several functions share.
pub mod Copy
pub mod Unique
