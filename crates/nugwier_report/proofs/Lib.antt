mod Walks
-- what is told one after another
pub mod Saying
pub mod Parts
pub mod Telling
pub mod Listing
-- what is loaded of a stream, beside its file
pub mod Follows
pub mod Viewed
-- the number that a word is
pub mod Numbers
