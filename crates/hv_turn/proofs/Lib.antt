pub mod CountLemmas
pub mod Prefixes
pub mod Steps
pub mod Allowed
pub mod TokenLemmas
pub mod Many
