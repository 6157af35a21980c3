pub use Rattle.hv_clean as hv_clean
pub use Rattle.hv_compact as hv_compact
pub mod Change
pub mod Background
pub mod Beside
pub mod Doing
pub mod Own
pub mod Keeping
pub mod Running
pub mod Results
pub mod Lines
pub mod Headline
pub mod Reading
pub mod Stops
pub mod Serving
pub mod Refused
pub mod Causes
