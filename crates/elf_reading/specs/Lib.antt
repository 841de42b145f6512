-- In the order in which they are read.

-- what the calls of a source do, and what a source in memory holds
pub mod Source
-- why a call that reads a source returns an error
pub mod Refusals
-- the parts of a source that are cached
pub mod Cache
-- how a file is opened
pub mod Opening
-- a table of headers as the file header declares it
pub mod Tables
-- a record at the front of some bytes
pub mod Leading
-- which sections the versions of symbols are taken from
pub mod Versions
-- what contracts of private functions cite
pub mod inner
