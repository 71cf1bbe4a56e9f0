-- The lemmas of `families`.
pub mod Following
pub mod Powers
