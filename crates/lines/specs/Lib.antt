-- The definitions that the contracts cite of `lines`.
pub mod Numbers
pub mod Entries
pub mod Lines
pub mod Packs
pub mod Refusals
pub mod Laws
pub mod Finite
pub mod Decoded
pub mod Same
pub mod Equal
