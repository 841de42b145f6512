pub mod BuildIds
mod Apart
mod Places
