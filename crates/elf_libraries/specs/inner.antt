-- the names of objects, as a set
pub mod LoadedNames
-- what is loaded so far
pub mod Loading
-- paths, and a set of the same
pub mod Paths
