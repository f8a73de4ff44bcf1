pub mod Writer
pub mod Working
