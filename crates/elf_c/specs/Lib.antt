-- the status that a call returns, and what it writes
pub mod Status
-- tables of records
pub mod Tables
-- places that are filled with records
pub mod Filled
-- the structs of the records
pub mod Records
-- symbols with their names
pub mod Named
-- look-ups by hash sections
pub mod Find
-- hash sections that C holds open
pub mod HashTables
-- hash sections that are checked
pub mod Sound
-- notes
pub mod Notes
-- the versions of symbols
pub mod Versions
-- the versions of symbols in places
pub mod VersionPlaces
-- the names of values
pub mod Names
-- the texts of errors
pub mod Texts
-- files that C holds open
pub mod File
-- files as far as they are loaded
pub mod Loaded
-- that what is loaded answers as the whole file
pub mod Follows
-- files that are opened as far as they are loaded
pub mod Opening
-- the bytes of sections and segments
pub mod Data
-- symbols and dynamic entries
pub mod Symbols
-- the names that dynamic entries give
pub mod DynamicNames
-- what is looked up most often
pub mod Common
-- the names of sections
pub mod SectionNames
-- symbols by address
pub mod Addresses
-- the faults of a file
pub mod Faults
-- the texts of faults
pub mod FaultTexts
-- files that are checked
pub mod Check
-- what only implementations cite
pub mod inner
