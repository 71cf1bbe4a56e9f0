-- The lemmas of this crate.
pub mod Parting
pub mod Digits
pub mod Threes
