pub mod JoinedTexts
pub mod Nodes
pub mod Accumulators
pub mod Once
pub mod Parts
pub mod TruthNodes
