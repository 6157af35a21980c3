pub mod Outcomes
mod Stored
mod Limits
mod Merges
mod Twice
mod Typed
mod Queries
pub mod Meanings
mod Drops
mod Asks
pub mod Forms
pub mod Unseen
pub mod Narrow
pub mod Requests
