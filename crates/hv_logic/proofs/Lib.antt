pub mod SizeLemmas
pub mod Steps
pub mod NameLemmas
