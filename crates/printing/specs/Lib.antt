-- What the writers of lines cite besides the definitions of the text.
pub mod Page
pub mod Told
pub mod NumberLine
