pub mod Items
pub mod Reading
pub mod Script
pub mod Words
pub mod Actions
pub mod Kinds
pub mod ActionReading
pub mod Standing
