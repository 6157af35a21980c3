pub mod Sitting
pub mod ShareLaws
