pub mod Fronts
mod Layouts
