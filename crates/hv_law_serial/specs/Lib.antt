pub mod Passes
pub mod Serial
pub mod History
pub mod Scripts
pub mod Worked
