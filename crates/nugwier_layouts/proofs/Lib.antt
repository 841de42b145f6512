pub mod Writing
pub mod Plain
pub mod JsonStrings
pub mod JsonReading
pub mod Characters
pub mod Dump
pub mod Spaces
