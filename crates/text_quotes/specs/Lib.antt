pub mod Quotes
pub mod Working
