pub mod ConversionLemmas
pub mod DateReading
pub mod DateSteps
pub mod DateText
pub mod OrderSteps
pub mod PlainText
pub mod PrintSteps
