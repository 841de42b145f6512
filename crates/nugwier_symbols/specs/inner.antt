-- the relocations of a place, and what they are told by
pub mod Relocations
