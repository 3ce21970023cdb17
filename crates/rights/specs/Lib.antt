-- The definitions of document 01, from the ground up: what a contract cites, and what a reader has to believe.
pub mod Below
pub mod Permission
pub mod Cell
pub mod Register
pub mod Chain
pub mod Order
pub mod Level
pub mod Sound
pub mod Restriction
pub mod Deletion
pub mod Tally
pub mod Refusal
pub mod Act
pub mod Command
pub mod Question
pub mod Run
-- its worked cases
pub mod Maps
pub mod Cases
pub mod Agreement
