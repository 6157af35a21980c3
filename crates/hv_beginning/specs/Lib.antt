pub use Rattle.hv_steps as hv_steps
pub mod Beginnings
