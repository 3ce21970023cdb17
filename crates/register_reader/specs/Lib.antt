-- What the register reader answers and leaves, by the definitions of the text.
pub mod Told
