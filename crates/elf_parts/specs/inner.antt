pub mod Answers
pub mod Placed
pub mod Walked
