-- What the proofs of several functions share.
pub mod Carried
pub mod Unique
