-- What the proofs of several functions share.
pub mod Refusals
pub mod Unique
