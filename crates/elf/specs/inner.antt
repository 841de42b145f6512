pub mod Passes
pub mod Opened
pub mod Loads
