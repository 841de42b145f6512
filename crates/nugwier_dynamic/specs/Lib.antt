-- the dynamic entries
pub mod EntryRows
pub mod Entries
-- the chains of hash sections
pub mod ChainRows
pub mod Chains
-- the versions that are defined and needed
pub mod VersionRows
pub mod VersionLists
-- how a file is hardened
pub mod HardeningRows
pub mod Hardening
-- what only private functions cite
pub mod inner
