pub mod Next
pub mod Order
pub mod Carrying
pub mod Worked
