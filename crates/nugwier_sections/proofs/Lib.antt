pub mod CheckedContent
pub mod Told
pub mod FaultsSaid
pub mod Strings
