pub mod NoSecond
pub mod Unique
pub mod Worked
