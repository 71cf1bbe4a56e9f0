-- The definitions that the contracts cite of `layout`.
pub mod Lists
pub mod Refusals
pub mod Sheets
pub mod Steps
