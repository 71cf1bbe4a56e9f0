-- The lemmas of `keeping`.
mod Rounding
mod Returning
mod Placing
