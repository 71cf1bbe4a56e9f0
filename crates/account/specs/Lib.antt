-- The definitions that the contracts cite of `account`.
pub mod Hex
pub mod Accounts
