pub use Rattle.hv_grammar as hv_grammar
pub mod Built
pub mod Running
