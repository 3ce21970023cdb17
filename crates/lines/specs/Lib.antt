-- What the line readers answer, by the definitions of the text.
pub mod Read
