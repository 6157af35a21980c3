mod NoteLemmas
mod RowLemmas
mod FrontLemmas
pub mod SurveyLemmas
mod SetLemmas
mod PieceLemmas
mod DueLemmas
