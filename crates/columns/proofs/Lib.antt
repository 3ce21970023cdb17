-- What the proofs rest on, and that the contract leaves no choice.
pub mod Turns
pub mod Unique
