-- In the order in which they are read.

-- ---- a file that was opened

-- what an `ElfBytes` shows
pub mod ElfBytes
-- section i, the bytes that a header gives a range of, and the first or last header of a type
pub mod Headers
-- headers in a table or in a list
pub mod FileHeaders
-- what the answers take: headers and bytes
pub mod ObjectFile
-- ---- the answers

-- the names of sections
pub mod Names
-- the bytes of a section, with its compression header
pub mod Data
-- where the versions of symbols lie
pub mod Versions
-- the answer of each method
pub mod Answers
-- what is looked up most often, found in one pass
pub mod Common
-- ---- a partly loaded file

-- a walk over headers
pub mod Walk
-- its ranges, and its answers beside those of the whole file
pub mod Parts
-- one whose caller has loaded them
pub mod LoadedRanges
-- ---- a stream

-- what contracts see of a stream, and what its calls leave
pub mod ElfStream
-- the object file of a stream, whose headers are lists
pub mod StreamFile
-- what a stream has loaded
pub mod Loaded
-- the ranges that a call requests
pub mod Ranges
-- what a method that returns a borrow leaves
pub mod Lending
-- ---- both readers

-- two readers answer the same, to one call and to a list of calls
pub mod Readers
-- what private functions and implementations cite
pub mod inner
