pub use Rattle.hv_law_marks as hv_law_marks
pub mod Laws
pub mod Marks
pub mod Work
