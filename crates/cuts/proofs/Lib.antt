-- What the changes of single cells have in common.
pub mod Cells
pub mod Handed
pub mod Unique
