pub mod Faults
pub mod Orders
pub mod Rising
pub mod Amiss
pub mod Reading
pub mod Damage
pub mod Putting
