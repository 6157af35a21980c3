pub mod Sayings
pub mod Owned
pub mod Placed
pub mod Gones
pub mod Spanned
