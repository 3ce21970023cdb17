-- What the proofs of several functions share, and that no contract leaves a choice.
pub mod Standing
pub mod Unique
