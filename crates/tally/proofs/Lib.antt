-- What the tally rests on.
pub mod Sum
pub mod Unique
