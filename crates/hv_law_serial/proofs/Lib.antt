pub mod Actions
pub mod Living
pub mod Passing
pub mod Statements
pub mod Serially
pub mod Whole
pub mod Worked
