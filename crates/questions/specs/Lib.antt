-- What the contracts of questions cite beside the definitions of document 01.
pub mod Step
