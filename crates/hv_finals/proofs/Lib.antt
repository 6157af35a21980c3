pub mod RangeLemmas
pub mod DirLemmas
pub mod CallLemmas
pub mod LookLemmas
pub mod ClearLemmas
pub mod EndLemmas
