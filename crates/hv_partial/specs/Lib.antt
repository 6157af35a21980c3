pub mod Sums
pub mod Lifts
pub mod Kept
pub mod Keys
pub mod Merged
