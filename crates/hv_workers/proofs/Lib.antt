pub mod StandingLaws
pub mod Parted
