pub use Rattle.hv_fits as hv_fits
pub use Rattle.hv_earlier as hv_earlier
pub use Rattle.hv_tallies as hv_tallies
pub mod Fronts
pub mod Marks
pub mod Jobs
