-- the symbols of a table, each with its number
pub mod Ordered
-- what is said of the relocations of several places
pub mod Placed
-- what was told, of what may be said
pub mod Told
-- the versions of symbols
pub mod ShownVersions
