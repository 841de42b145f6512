-- In the order in which they are read.
pub mod Entries
pub mod Segments
pub mod Strings
pub mod Hashes
pub mod Relocations
pub mod Symbols
pub mod Versions
pub mod Laws
