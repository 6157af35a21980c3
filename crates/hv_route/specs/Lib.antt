pub use Rattle.hv_rowfile as hv_rowfile
pub mod Back
pub mod Buckets
pub mod Partitions
pub mod Placing
pub mod Rising
pub mod Routes
pub mod Standing
pub mod Touching
