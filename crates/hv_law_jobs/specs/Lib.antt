pub mod Sound
pub mod Worked
pub mod Fitting
pub mod Sets
pub mod Lasting
