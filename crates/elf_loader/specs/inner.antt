-- What only private functions cite.
pub mod Glibc
pub mod GlibcReading
