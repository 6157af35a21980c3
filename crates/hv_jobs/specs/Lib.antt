pub use Rattle.hv_history as hv_history
pub mod Covers
pub mod Covered
pub mod Finals
