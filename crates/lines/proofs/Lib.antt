-- The laws that the proofs of the line readers share.
pub mod WordRead
pub mod Words
pub mod Found
pub mod SoFar
pub mod Unique
