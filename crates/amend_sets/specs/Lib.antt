pub mod Amend
pub mod Working
