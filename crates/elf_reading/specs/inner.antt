pub mod HeaderSteps
pub mod Reads
