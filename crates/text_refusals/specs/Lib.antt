pub mod Refusals
pub mod Working
