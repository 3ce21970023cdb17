-- What the loops over rows have in common.
pub mod Table
pub mod Part
pub mod Rows
pub mod Guard
pub mod Whole
pub mod Unique
