pub mod Between
pub mod WriteIds
