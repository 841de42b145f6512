pub mod CommonPass
pub mod Alike
pub mod Same
pub mod Calls
pub mod stream
pub mod Positions
pub mod Partly
pub mod Held
