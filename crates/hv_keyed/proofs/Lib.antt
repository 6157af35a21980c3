pub mod GroupLaws
pub mod PartLaws
pub mod JoinLaws
pub mod Members
