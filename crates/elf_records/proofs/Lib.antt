pub mod Numbers
pub mod Packed
pub mod Parts
pub mod Nuls
pub mod Terminated
pub mod Items
pub mod Places
pub mod Segments
