pub mod Best
pub mod Fits
