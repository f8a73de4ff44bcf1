pub mod Worksheet
pub mod Working
