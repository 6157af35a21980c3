pub mod Starts
pub mod Backs
pub mod Crossing
pub mod BookCrossing
pub mod HouseCrossing
