pub mod PlaceLaws
pub mod OnlyLaws
pub mod OrderLaws
