pub use Rattle.hv_telling as hv_telling
pub mod Forgetting
pub mod Listing
pub mod Refusals
pub mod Staging
pub mod Steps
pub mod Sweeping
pub mod Tests
