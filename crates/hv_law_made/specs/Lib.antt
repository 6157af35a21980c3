pub mod Made
pub mod Standing
pub mod Named
pub mod Laws
pub mod Entries
pub mod Opening
pub mod Stopping
