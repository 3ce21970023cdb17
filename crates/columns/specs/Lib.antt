-- What the loops over columns promise, beyond the definitions of document 01.
pub mod Marked
