pub mod StateLaws
pub mod ShownLaws
pub mod NumberLemmas
pub mod AnswerLemmas
pub mod RefusalNames
pub mod LastingLaws
pub mod AskingLaws
pub mod JobsStay
