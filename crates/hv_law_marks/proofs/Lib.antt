pub mod Marks
pub mod Books
pub mod ItsFiles
pub mod Standing
