pub mod KnownLemmas
pub mod MovedLemmas
pub mod NamesLemmas
