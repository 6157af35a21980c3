pub mod ActLemmas
pub mod CauseLemmas
pub mod ListingLemmas
