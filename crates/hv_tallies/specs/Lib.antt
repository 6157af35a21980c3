pub use Rattle.hv_earlier as hv_earlier
pub mod Tallies
pub mod Walks
pub mod Jobs
pub mod Covered
