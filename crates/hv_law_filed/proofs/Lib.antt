pub mod NewIds
pub mod OwnChanges
pub mod QuietEntries
pub mod OwnRecords
pub mod Commits
