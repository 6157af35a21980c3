pub mod SumLaws
pub mod Fitting
pub mod LiftLaws
pub mod KeptLaws
pub mod KeyLaws
pub mod Ranks
pub mod MergeLaws
