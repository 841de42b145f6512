-- the file header
pub mod Header
-- the build id
pub mod BuildId
-- what a loader maps
pub mod MappingRows
pub mod Plan
-- the sections
pub mod SectionRows
pub mod Sections
-- the segments, and the sections of each
pub mod SegmentRows
pub mod SegmentSections
pub mod Segments
-- the content of sections
pub mod ContentRows
pub mod Contents
-- the links to files with debug information
pub mod DebugLinkRows
pub mod DebugLinks
-- what is said of a file that is checked
pub mod Verdicts
pub mod Check
