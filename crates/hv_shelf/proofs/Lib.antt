pub mod RenameLemmas
pub mod TreeLemmas
