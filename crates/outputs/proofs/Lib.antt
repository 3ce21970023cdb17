-- What is proved of the output of `regrun`.
pub mod Short
pub mod Part
pub mod Accepted
pub mod Commands
pub mod Turn
pub mod Beginning
pub mod Whole
pub mod Unique
pub mod Example
pub mod Again
pub mod Commanded
