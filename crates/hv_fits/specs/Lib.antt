pub use Rattle.hv_meta as hv_meta
pub use Rattle.hv_book as hv_book
pub mod Texts
