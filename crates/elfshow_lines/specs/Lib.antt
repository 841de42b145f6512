-- pieces of text: numbers, names, bytes
pub mod Pieces
-- what a writer and a line buffer show
pub mod Adding
-- a file for each subject of lines
pub mod Header
pub mod Counted
pub mod NoAnswer
pub mod Name
pub mod Sections
pub mod Segments
pub mod Data
pub mod Strings
pub mod Relocations
pub mod Symbols
pub mod Dynamic
pub mod Notes
pub mod Versions
