pub mod Outcome
pub mod Working
