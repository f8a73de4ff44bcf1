pub mod Rounding
pub mod Unit
