pub mod StageNodes
pub mod Lines
