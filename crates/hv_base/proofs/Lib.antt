pub mod ReadingLemmas
pub mod RefusalLemmas
pub mod SinkLemmas
pub mod SortingLaws
pub mod SourceLemmas
pub mod ToldLemmas
