-- the linker's cache of libraries
pub mod Cache
pub mod Search
pub mod Tree
-- what is known of files and folders, of files in memory, and of those below a folder
pub mod Folder
pub mod Opening
pub mod MemoryFiles
pub mod Below
-- the lines of ld.so.conf, names by shell patterns, and the folders that are configured
pub mod Conf
pub mod Patterns
pub mod Configured
-- the usual folders of libraries, and their subfolders for the processor
pub mod Usual
pub mod Processor
pub mod inner
