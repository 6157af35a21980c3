pub use Rattle.hv_book as hv_book
pub mod States
pub mod Catalogs
pub mod Committing
