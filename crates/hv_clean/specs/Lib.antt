pub use Rattle.hv_job_acts as hv_job_acts
pub mod Stopping
pub mod Passing
pub mod Fronts
pub mod Removing
pub mod Dirs
pub mod Alone
