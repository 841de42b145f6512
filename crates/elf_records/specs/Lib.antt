-- What the contracts of numbers and records cite, in reading order.

-- the size of an address in each class
pub mod Class
-- bytes and numbers at an offset, and the errors of reads
pub mod Number
-- the byte orders, and the byte that names each
pub mod Endian
-- field tables as data, how a record is read by one, and what a type of records is
pub mod Record
-- numbers of four and of eight bytes as records
pub mod Word
-- the file header
pub mod File
-- the field tables of section headers, program headers, symbols, relocations, dynamic entries and compression headers
pub mod Section
pub mod Segment
pub mod Symbol
pub mod Relocation
pub mod Dynamic
pub mod Compression
-- tables of records of one size
pub mod Table
-- strings that end in a 0 byte
pub mod StringTable
-- the texts of errors
pub mod Texts
-- what equality is, and what a clone is
pub mod Equality
pub mod Clones
-- what only implementations and private functions cite
pub mod inner
