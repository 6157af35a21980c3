pub mod Saying
pub mod Owning
pub mod Spans
