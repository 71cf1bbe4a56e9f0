-- The lemmas of `record_store`.
pub mod Found
pub mod Single
