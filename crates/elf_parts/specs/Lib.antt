-- What the contracts of the parts of a file cite, in reading order.

-- records that say where the next one begins
pub mod Link
-- notes
pub mod Note
-- GNU symbol versioning: linked records, the version records, their lists, and the versions of symbols
pub mod gnu_symver
-- the hashes of a name, and what both hash sections are read by
pub mod Hash
-- SysV hash sections and GNU hash sections, and what is found by them
pub mod SysvFind
pub mod GnuFind
-- how files are written: members as bytes, and the structures of the gABI as members
pub mod Written
pub mod Structs
-- what only implementations and private functions cite
pub mod inner
