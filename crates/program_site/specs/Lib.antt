pub mod Site
pub mod Working
