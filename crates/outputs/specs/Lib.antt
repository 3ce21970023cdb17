-- What the program `regrun` writes for an input.
pub mod Output
pub mod Within
