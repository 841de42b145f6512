-- the walk over the objects of a program
pub mod Walk
-- the files and the objects of a scope, as the code has them
pub mod Scope
-- what is loaded of a file
pub mod Opening
