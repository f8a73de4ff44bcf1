pub mod Owners
pub mod Respect
pub mod Unwinding
pub mod Separation
pub mod Sites
pub mod Places
