-- what was found through the segments
pub mod Linked
-- the sections of some types that were read
pub mod TypedSections
