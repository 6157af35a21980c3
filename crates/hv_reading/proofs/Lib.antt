pub mod Either
pub mod Skimmed
pub mod Texts
