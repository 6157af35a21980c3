pub use Rattle.hv_finals as hv_finals
pub use Rattle.hv_law_read as hv_law_read
pub use Rattle.hv_table_rows as hv_table_rows
pub use Rattle.hv_recovery as hv_recovery
pub mod Asking
pub mod Booting
pub mod Ending
pub mod Calls
pub mod Faults
pub mod House
pub mod Listing
pub mod Publishing
pub mod Housed
pub mod Seeing
pub mod Steps
