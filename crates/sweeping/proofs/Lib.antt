-- What the proofs of several functions share.
pub mod Padded
pub mod Swept
pub mod Unique
