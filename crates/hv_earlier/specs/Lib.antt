pub use Rattle.hv_meta as hv_meta
pub mod Fates
pub mod Lists
pub mod Places
