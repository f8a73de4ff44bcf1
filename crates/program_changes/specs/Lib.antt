pub mod Changes
pub mod Working
