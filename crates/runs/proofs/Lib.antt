-- What the proofs of this crate share, and what follows from its contracts.
pub mod Again
pub mod Turn
pub mod Ending
pub mod WeakRuns
