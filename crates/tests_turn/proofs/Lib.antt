pub mod Laters
