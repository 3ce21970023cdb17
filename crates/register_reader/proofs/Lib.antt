-- What the proofs of several functions share.
pub mod Header
pub mod Checks
pub mod Judged
pub mod Taken
pub mod Unique
