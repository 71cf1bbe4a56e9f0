-- The definitions that the contracts cite of `families`.
pub mod Known
pub mod Words
pub mod Digits
pub mod Mixes
pub mod Tables
pub mod Small
pub mod Knowing
pub mod Rotations
