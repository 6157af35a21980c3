pub use Rattle.hv_acts as hv_acts
pub use Rattle.hv_job_calls as hv_job_calls
pub mod Answers
pub mod Work
pub mod Covering
pub mod Questions
pub mod Asking
pub mod Picking
pub mod Doing
pub mod Forgetting
pub mod Marked
pub mod Reading
pub mod Staging
pub mod Going
pub mod Few
pub mod Laters
