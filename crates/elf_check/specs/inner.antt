pub mod VersionProps
pub mod DynamicProps
pub mod StringProps
pub mod SegmentsProps
pub mod SoundProps
pub mod Walk
pub mod Kept
