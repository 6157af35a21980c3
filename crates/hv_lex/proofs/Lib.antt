pub mod Figures
pub mod Reading
pub mod Runs
pub mod Quotes
