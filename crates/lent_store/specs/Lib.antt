-- The definitions that the contracts cite of `lent_store`.
pub mod Memory
pub mod Lent
