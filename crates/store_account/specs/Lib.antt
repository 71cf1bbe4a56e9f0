-- The definitions that the contracts cite of `store_account`.
pub mod Accounts
pub mod Told
