pub use Rattle.hv_law_work as hv_law_work
pub use Rattle.hv_house as hv_house
pub mod Telling
pub mod Laws
