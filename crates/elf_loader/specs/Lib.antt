-- what the kernel requires
pub mod kernel
-- the dynamic linker of the GNU C library: values, what it asks of a file, and its words
pub mod GlibcValues
pub mod Glibc
pub mod GlibcTexts
-- a part of a file beside the whole
pub mod GlibcLaws
-- what only private functions cite
pub mod inner
