pub mod Meetings
pub mod Askings
pub mod Nexts
pub mod Going
pub mod Holding
