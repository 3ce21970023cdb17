-- What the reader of a number answers, by the definitions of the text.
pub mod Line
