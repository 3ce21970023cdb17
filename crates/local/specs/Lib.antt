-- What a helper of the local deletions gives.
pub mod Mark
