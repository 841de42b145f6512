-- what a listing says of a checked section, and the line of it
pub mod Verdicts
pub mod Hashes
-- the question of a call
pub mod Question
-- the text of a call over an object file, or its error
pub mod Text
-- the ranges that a call requests of a stream
pub mod Ranges
-- what a call over a stream writes, and why it stops
pub mod Stream
-- what a run of calls writes, and why it stops
pub mod Run
-- the call that a word spells
pub mod Words
-- the program: its request, and what it writes
pub mod Show
-- why the program stops, and its exit status
pub mod Failure
-- what only implementations and private functions cite
pub mod inner
