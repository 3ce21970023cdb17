-- What the proofs of several functions share.
pub mod Bounds
pub mod Place
pub mod Unique
