pub mod History
pub mod Laws
pub mod Members
pub mod Readers
pub mod Snapshots
pub mod Stands
pub mod Visible
pub mod Worked
