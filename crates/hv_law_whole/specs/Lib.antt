pub use Rattle.hv_law_made as hv_law_made
pub use Rattle.hv_law_directories as hv_law_directories
pub mod Whole
pub mod Shown
pub mod Gathered
pub mod Covered
pub mod Finals
