pub use Rattle.hv_law_filed as hv_law_filed
pub mod Marked
pub mod Laws
