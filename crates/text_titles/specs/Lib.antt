pub mod Blanks
pub mod Titles
