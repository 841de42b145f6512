-- the lines of symbols and of sections whose names can be read
pub mod Named
-- the lines of versions whose names are text
pub mod Sure
-- what the listing of a sound file answers
pub mod Answers
-- objects of a look-up that are made of sound files
pub mod Bindings
-- what linkers and writers of files put into them
pub mod Built
pub mod BuiltBytes
pub mod BuiltSections
pub mod WrittenFiles
-- small files and sections of which something is known
pub mod Files
pub mod Known
pub mod SoundSections
-- the calls of both readers as values, and that a call was made
pub mod Asked
-- lists of calls of a stream, with those that load ranges
pub mod Steps
-- what is found in hash sections that are checked, of one section and of a list of files
pub mod Found
-- what a listing by both readers leaves
pub mod Listed
-- the promises of the library on one page
pub mod Headline
