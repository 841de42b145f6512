pub mod BuildId
pub mod Functions
pub mod LoadPlan
pub mod HashLint
pub mod SymbolVersions
pub mod Addresses
pub mod DebugLink
pub mod inner
