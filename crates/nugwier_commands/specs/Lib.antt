-- what the words of a command line ask for, why words are no request, and how the program is called
pub mod Words
pub mod WordTexts
pub mod Help
-- what is said of one file for each command, and the names that problems are told with
pub mod Job
pub mod Labels
-- files that are no ELF files
pub mod Formats
pub mod Run
pub mod Walk
pub mod inner
