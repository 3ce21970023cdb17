-- What the lines of the program say.
pub mod Answers
