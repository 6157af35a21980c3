pub use Rattle.hv_value as hv_value
pub use Rattle.hv_ast as hv_ast
pub mod Rows
pub mod Sizes
pub mod Tables
pub mod Shapes
pub mod Names
