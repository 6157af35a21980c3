pub mod Layout
pub mod Tokens
