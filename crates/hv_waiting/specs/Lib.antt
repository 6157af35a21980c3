pub mod Queue
pub mod Starting
pub mod Beginnings
pub mod Doing
pub mod Kinds
