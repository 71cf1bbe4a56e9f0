-- The definitions that the contracts cite of `worked`.
pub mod Examples
