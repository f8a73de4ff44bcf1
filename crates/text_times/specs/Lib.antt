pub mod Times
pub mod Working
