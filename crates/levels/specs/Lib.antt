-- What the contracts of levels cite beside the definitions of document 01.
pub mod Padded
