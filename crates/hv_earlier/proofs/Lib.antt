pub mod ListLemmas
pub mod PlaceLaws
pub mod WalkLaws
pub mod ExceptionLaws
pub mod SortedLaws
pub mod CatalogLemmas
pub mod NameLemmas
