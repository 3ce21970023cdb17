-- What the tally promises, beyond the definitions of document 01.
pub mod Missing
