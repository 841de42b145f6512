-- What the contracts of this crate cite, in reading order.

-- numbers and texts of any length
pub mod Leb128
-- the parts of a section of build attributes
pub mod Attributes
