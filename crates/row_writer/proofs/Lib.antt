-- What the proofs of several functions share.
pub mod Row
pub mod Unique
