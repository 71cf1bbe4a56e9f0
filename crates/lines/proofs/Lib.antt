-- The lemmas of `lines`.
pub mod Arrays
pub mod Parts
pub mod Present
pub mod Recorded
pub mod Bytes
pub mod Decoding
