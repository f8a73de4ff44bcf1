pub mod Places
pub mod Working
