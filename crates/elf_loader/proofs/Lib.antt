pub mod GlibcParts
pub mod GlibcWhole
mod GlibcReading
mod Filled
mod Partly
