-- The definitions that the contracts cite of `keeping`.
pub mod Stays
pub mod Laid
