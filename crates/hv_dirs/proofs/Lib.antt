pub mod ChoiceLemmas
pub mod NameLemmas
pub mod OwnNames
pub mod ParsingLemmas
