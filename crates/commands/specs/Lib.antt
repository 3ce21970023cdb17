-- How the code's answer is the definitions' outcome.
pub mod Post
