pub mod Fronts
pub mod Gathered
pub mod Kept
pub mod Looks
pub mod Parts
pub mod Places
pub mod RisingLemmas
pub mod Runs
