pub mod Names
pub mod Working
