pub mod Lengths
pub mod Numbers
pub mod Texts
pub mod Again
pub mod ItemLemmas
pub mod Only
pub mod Room
pub mod WritingLemmas
