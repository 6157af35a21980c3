pub mod FactLemmas
mod DropLemmas
pub mod CommitLemmas
