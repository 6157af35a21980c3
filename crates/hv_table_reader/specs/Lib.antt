pub use Rattle.hv_acts as hv_acts
pub mod Counting
pub mod Damage
pub mod Steady
pub mod Tables
