pub use Rattle.hv_history as hv_history
pub use Rattle.hv_tallies as hv_tallies
pub mod Settings
pub mod Queue
