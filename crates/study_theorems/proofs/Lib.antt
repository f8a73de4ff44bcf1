pub mod Sites
pub mod LongFile
pub mod RoundTrip
pub mod Study
