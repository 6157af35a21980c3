pub use Rattle.hv_counts as hv_counts
pub mod Counting
pub mod Laws
pub mod Worked
