pub mod CallSteps
pub mod RunSteps
pub mod MemoryRuns
