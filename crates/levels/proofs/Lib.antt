-- What the proofs of several functions share.
pub mod Loops
pub mod Padded
pub mod Rounds
pub mod Given
pub mod Unique
