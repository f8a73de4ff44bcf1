pub mod Phrases
pub mod Working
