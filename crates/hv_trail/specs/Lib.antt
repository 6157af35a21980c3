pub mod Kept
pub mod Lasting
pub mod Own
pub mod Serial
pub mod Spare
pub mod Steps
pub mod Trail
pub mod Worked
