-- The lemmas of `layout`.
pub mod Joining
pub mod Entering
pub mod Running
