pub use Rattle.hv_job_acts as hv_job_acts
pub mod Stopping
pub mod Initiating
pub mod Gathering
pub mod Reading
pub mod Writing
pub mod Compacting
pub mod Ending
pub mod Alone
