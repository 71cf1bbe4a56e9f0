-- The lemmas of `stores`.
pub mod Choosing
pub mod Modelling
pub mod Viewing
pub mod Refusing
pub mod Meaning
