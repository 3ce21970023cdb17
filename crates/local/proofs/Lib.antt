-- What the proofs of several functions share.
pub mod Made
pub mod Local
pub mod Unique
