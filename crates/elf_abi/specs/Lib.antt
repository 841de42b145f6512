-- the standard's values by name
pub mod Values
-- lists of values with their names, and what a look-up in one answers
pub mod Names
-- the names of the header's values
pub mod HeaderNames
pub mod MachineNames
-- the names of the values of sections, segments, symbols, notes and dynamic entries
pub mod SectionNames
pub mod SegmentNames
pub mod SymbolNames
pub mod NoteNames
pub mod DynamicNames
-- all lists of names
pub mod AllNames
