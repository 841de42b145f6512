pub mod Reported
pub mod AllFiles
mod Named
mod Begun
pub mod Lifting
mod Unopened
mod Programs
mod Walks
-- what the digits of an address say, and how the last colon of a word divides it
pub mod Digits
pub mod Divided
