pub mod Reach
pub mod Working
