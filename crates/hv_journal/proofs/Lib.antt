pub mod Lengths
pub mod Again
pub mod Forms
pub mod Only
pub mod Books
pub mod Room
pub mod Appended
pub mod Torn
