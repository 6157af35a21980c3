pub use Rattle.hv_history as hv_history
pub mod Files
pub mod Sound
pub mod Reading
pub mod Laws
pub mod Running
pub mod Statements
pub mod Worked
