pub mod Left
mod VersionChoice
pub mod Cached
mod Filling
pub mod steps
