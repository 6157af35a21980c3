pub mod Deletes
pub mod Laws
pub mod Partitions
pub mod Worked
pub mod Since
pub mod States
