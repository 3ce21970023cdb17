-- What the changes of single cells promise, beyond the definitions of document 01.
pub mod Stored
