pub mod Headings
pub mod Working
