-- What the reader of records answers and leaves, by the definitions of the text.
pub mod Read
pub mod Stored
