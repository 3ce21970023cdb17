-- What the writers cite besides the definitions of the text.
pub mod Row
