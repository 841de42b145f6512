-- What the contracts of this crate cite, in reading order.

-- the fields of headers: numbers and names
pub mod Fields
-- the members of an archive
pub mod Archive
-- what implementations cite
pub mod inner
