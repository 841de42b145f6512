-- which symbols are listed
pub mod SymbolOptions
-- the versions of symbols
pub mod SymbolVersions
-- the symbols, and one of them
pub mod SymbolRows
pub mod Symbols
-- the symbols at addresses
pub mod AddressRows
pub mod Addresses
-- the relocations
pub mod RelocationRows
pub mod Relocations
-- the section groups
pub mod GroupRows
pub mod Groups
-- what the structs are, as the definitions have it
pub mod inner
