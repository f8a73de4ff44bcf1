pub mod Text
pub mod Working
