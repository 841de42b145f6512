-- what is said of a file
pub mod Said
-- what the code says, as what is said
pub mod Noted
-- a page of a report after something was told on it
pub mod Sheets
-- the texts of several things
pub mod Texts
-- the text of problems, and of the sections that they name
pub mod Labels
pub mod Parts
pub mod Problems
-- what a report writes
pub mod Told
-- the file that is loaded in part
pub mod Whole
-- what is said of what was read
pub mod Reading
-- the dynamic symbols and their versions, and how a version is said
pub mod Linked
pub mod SymbolVersion
-- the names of sections in headings
pub mod Headings
-- the sections of some types, each with its bytes
pub mod TypedSections
-- the sections that a word names
pub mod NamedSections
-- what was read, as the definitions have it
pub mod inner
