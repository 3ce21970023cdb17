-- What the proofs of several functions share, and that the contract leaves no choice.
pub mod Alike
pub mod Rest
pub mod Made
pub mod Unique
