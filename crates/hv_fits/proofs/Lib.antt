pub mod LockLemmas
pub mod RequestLemmas
pub mod Growing
