pub mod NoteLemmas
pub mod WalkLemmas
pub mod EventLemmas
pub mod TallyLemmas
pub mod AskedLemmas
pub mod CoveredLemmas
