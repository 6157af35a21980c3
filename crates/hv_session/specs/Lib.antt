pub use Rattle.hv_beginning as hv_beginning
pub mod Alone
pub mod Doing
pub mod Ends
pub mod Faults
pub mod Lines
pub mod Taking
pub mod Ways
