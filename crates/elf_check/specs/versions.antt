pub mod Records
pub mod Indexes
pub mod InFile
pub mod Views
