pub use Rattle.hv_typing as hv_typing
pub use Rattle.hv_route as hv_route
pub mod Merging
pub mod Describing
pub mod Meaning
pub mod Needs
pub mod Laws
pub mod MergeLaws
