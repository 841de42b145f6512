-- what is said of notes
pub mod Notes
-- features of code
pub mod Features
-- what is said of the descriptors of notes
pub mod Properties
pub mod NoteParts
pub mod CoreNotes
pub mod Descriptors
-- what is said of build attributes
pub mod Attributes
-- the notes and the build attributes of a file
pub mod NoteSections
pub mod AttributeSections
