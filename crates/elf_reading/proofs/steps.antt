pub mod Ranges
pub mod Chains
pub mod Plain
pub mod Parts
pub mod Reads
pub mod Located
