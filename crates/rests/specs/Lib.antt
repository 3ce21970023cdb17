-- What the rest of a text is.
pub mod Rest
