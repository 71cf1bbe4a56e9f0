-- The lemmas of `packed_store`.
pub mod Found
pub mod Zeros
