pub mod Study
