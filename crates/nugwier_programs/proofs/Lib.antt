pub mod Walk
pub mod Bound
pub mod Scopes
pub mod Linked
mod FirstReason
mod KnownFiles
mod Verdicts
