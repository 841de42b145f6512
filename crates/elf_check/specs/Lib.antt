-- members of a table, by their index
pub mod Members
-- linked records
pub mod Chains
-- the content of a section, by its type: strings, symbols, relocations, hash tables, dynamic entries and notes
pub mod Strings
pub mod Symbols
pub mod Relocations
pub mod RelocationLists
pub mod Hashes
pub mod Dynamic
pub mod Notes
-- a section
pub mod Sections
-- the versions of symbols: their records, which version a symbol has, and those of a file
pub mod versions
-- the segments: when they are sound, what each fault says, and what those of a checked file show
pub mod Segments
pub mod SegmentsFaults
pub mod SegmentsBytes
pub mod SegmentsWhole
-- what a loader maps
pub mod LoadPlan
-- the build id
pub mod BuildId
-- when a file is sound, what each fault says, and what a check says
pub mod Sound
pub mod Faults
pub mod Verdict
-- the texts of faults
pub mod Texts
-- all faults of a file, and a walk over them
pub mod TypeRules
pub mod AllFaults
pub mod Stages
pub mod FaultWalk
-- the views of a file that was checked, and of its parts
pub mod Whole
pub mod DynamicViews
pub mod RelocationViews
pub mod SectionViews
-- that a file is sound is true in one way only
pub mod inner
