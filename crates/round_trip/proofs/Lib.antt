-- The lemmas of `round_trip`.
pub mod Fresh
pub mod Lent
pub mod Rowed
