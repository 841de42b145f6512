-- what is wrong with the objects of a program
pub mod Faults
-- what is said of a program and the libraries that it loads
pub mod ObjectRows
pub mod Tree
-- what is said of symbols that are bound, and of the files that have them
pub mod BindingRows
pub mod Symbols
pub mod Bindings
-- what is refused to be loaded, and whether a program starts
pub mod Loading
pub mod Starts
-- what stands here although no public contract speaks of it
pub mod inner
