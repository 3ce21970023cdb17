-- What the loops over grantors and offices decide at each of them.
pub mod Loser
