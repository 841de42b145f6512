pub mod Expanding
pub mod Loading
mod OpenedWhole
-- names by shell patterns, and the folders of ld.so.conf
pub mod Listed
pub mod Matching
pub mod Configuring
pub mod Texts
