pub use Rattle.hv_law_whole as hv_law_whole
pub mod Needs
pub mod Reading
