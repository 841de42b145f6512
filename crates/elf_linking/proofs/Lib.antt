pub mod Requirements
pub mod Tables
pub mod Missing
pub mod Naming
mod Copying
mod Unnamed
pub mod Linked
pub mod Whole
-- contents that may not be known
pub mod Known
