pub mod Totals
pub mod Runs
pub mod Counts
pub mod Places
pub mod Books
pub mod Dues
pub mod Stood
pub mod WantedStood
