pub mod Orders
pub mod PartsAlike
