-- What the copy of a register is.
pub mod Copy
