pub mod Open
pub mod Working
