-- linked records: each gives the distance from its own start to the next one
pub mod Links
-- the field tables of the version records
pub mod Records
-- needs and definitions, each with its auxiliary entries
pub mod Lists
-- the versions of the symbols of a file
pub mod Table
-- which version an index stands for
pub mod VersionEntry
