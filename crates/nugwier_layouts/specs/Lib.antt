-- the characters that are shown
pub mod Escape
-- the members of records
pub mod Members
-- the text of objects of JSON; what a string of JSON says
pub mod Json
pub mod JsonReading
-- the layouts of records
pub mod Layouts
-- rows for people
pub mod Text
