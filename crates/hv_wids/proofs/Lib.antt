pub mod RisingLemmas
pub mod RangeLemmas
pub mod ExceptionLemmas
