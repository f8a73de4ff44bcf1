pub mod Run
pub mod Whole
pub mod Working
