-- The laws that the proofs of the reader of records share.
pub mod Step
pub mod SoFar
pub mod Room
pub mod Told
pub mod Granted
pub mod Unique
