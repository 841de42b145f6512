pub mod Marked
mod Found
pub mod Walking
pub mod Runs
pub mod Following
