-- what is missing of a file
pub mod Missed
