-- The definitions that the contracts cite of `round_trip`.
pub mod Trips
