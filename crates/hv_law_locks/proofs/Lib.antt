pub mod Texts
pub mod Names
pub mod Before
pub mod Holding
