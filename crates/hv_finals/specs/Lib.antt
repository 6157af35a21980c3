pub use Rattle.hv_law_made as hv_law_made
pub mod Finals
