pub use Rattle.hv_built as hv_built
pub use Rattle.hv_meaning as hv_meaning
pub mod Spelling
pub mod Journal
pub mod States
pub mod Standing
pub mod Shown
pub mod State
pub mod Asking
pub mod Answers
pub mod Load
pub mod Thresholds
pub mod Jobs
pub mod JobsFit
pub mod JobsTrue
pub mod Legal
pub mod Book
pub mod Places
pub mod Lasting
