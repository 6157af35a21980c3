pub mod CommitterLaws
pub mod ClashLemmas
