pub mod Working
pub mod Fill
