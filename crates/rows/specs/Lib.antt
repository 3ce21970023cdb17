-- What the loops over rows promise, beyond the definitions of document 01.
pub mod Whole
pub mod Row
