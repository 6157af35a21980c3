pub use Rattle.hv_effect as hv_effect
pub use Rattle.hv_table_reader as hv_table_reader
pub mod Ending
pub mod Going
pub mod Leaving
pub mod Phases
pub mod Preparing
pub mod Requests
pub mod Wanting
pub mod Seeing
