-- Definitions that no public contract cites.

-- the tables of an opened file
pub mod OwnTables
-- a file that is opened range by range
pub mod Steps
-- the definitions of versions as linked records
pub mod DefinitionLinks
-- text that is written piece by piece
pub mod Writing
