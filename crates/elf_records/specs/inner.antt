pub mod RecordLaws
pub mod Running
pub mod Part
pub mod Terminated
pub mod Extent
