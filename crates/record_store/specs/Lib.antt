-- The definitions that the contracts cite of `record_store`.
pub mod Records
