pub mod Troubles
pub mod Working
