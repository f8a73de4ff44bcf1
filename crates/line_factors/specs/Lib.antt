pub mod Factors
pub mod Working
