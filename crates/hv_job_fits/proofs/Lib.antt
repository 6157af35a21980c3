pub mod AskLemmas
pub mod WaitLemmas
pub mod WorkLemmas
pub mod LostLemmas
