pub use Rattle.hv_fits as hv_fits
pub mod Causes
pub mod Recovery
