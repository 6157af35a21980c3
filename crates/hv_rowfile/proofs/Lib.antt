pub mod Values
pub mod RowLemmas
pub mod Again
pub mod Only
pub mod Books
pub mod Damage
