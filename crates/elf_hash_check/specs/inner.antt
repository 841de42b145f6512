-- that a section is sound is true in one way only
pub mod SoundProps
-- where the run of a chain word begins
pub mod GnuRun
-- whether a hash section is sound, decided
pub mod Decisions
