-- The definitions that the contracts cite of `stores`.
pub mod Chunks
pub mod Refusals
pub mod Stores
pub mod Choices
pub mod Views
