-- What the proofs of several functions share, and that the contract leaves no choice.
pub mod First
pub mod Sets
pub mod Reading
pub mod One
pub mod Written
pub mod Refusals
pub mod Answered
pub mod Unique
