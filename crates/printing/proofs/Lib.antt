-- What the proofs of several functions share.
pub mod Adds
pub mod Told
pub mod Unique
