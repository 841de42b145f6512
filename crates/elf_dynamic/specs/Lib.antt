-- What the contracts of this crate cite, in reading order.

-- packed relative relocations: their words, and the addresses that these stand for
pub mod Relr
-- what is seen of a file through its segments
pub mod dynamic_view
-- what says where a file has what is linked
pub mod Linked
-- the texts of errors
pub mod Texts
