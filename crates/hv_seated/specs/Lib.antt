pub mod Sharing
pub mod Seats
pub mod Shares
