-- what is checked: a hash table with its symbols
pub mod WithSymbols
-- when it is sound, by the gABI and by GNU
pub mod SoundSysv
pub mod SoundGnu
-- which symbols it indexes, how many, and which of them have a name
pub mod Indexed
-- what each fault says
pub mod Faults
-- the texts of faults
pub mod Texts
-- which fault is the first one
pub mod First
-- what a checker says, and how many symbols it reads
pub mod Verdict
pub mod Reads
-- an object: a table of either kind
pub mod Object
-- the view of a checked table
pub mod CheckedTable
-- all symbols of a name, in order
pub mod NamedSymbols
-- what only implementations and private functions cite
pub mod inner
