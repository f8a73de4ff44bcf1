pub mod Standing
pub mod Words
pub mod Working
