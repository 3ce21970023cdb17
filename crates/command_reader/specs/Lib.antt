-- What the command reader answers, by the definitions of the text.
pub mod CommandTold
