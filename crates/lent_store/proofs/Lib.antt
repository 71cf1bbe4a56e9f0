-- The lemmas of `lent_store`.
pub mod Changing
pub mod Pasting
pub mod Rooms
