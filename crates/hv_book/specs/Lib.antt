pub use Rattle.hv_history as hv_history
pub mod Notes
pub mod Said
pub mod Briefs
pub mod Index
pub mod Commits
pub mod Past
pub mod Names
pub mod Opened
pub mod Jobs
