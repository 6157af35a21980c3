pub mod NeedLemmas
pub mod ReaderLemmas
pub mod TakenLemmas
pub mod RowLemmas
pub mod OwnLemmas
pub mod WholeLemmas
