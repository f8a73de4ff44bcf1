pub mod Arguments
pub mod Working
