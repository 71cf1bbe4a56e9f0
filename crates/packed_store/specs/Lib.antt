-- The definitions that the contracts cite of `packed_store`.
pub mod Packed
