-- how a file with known dynamic entries is hardened
pub mod Hardening
-- the symbols that lie in chains
pub mod Chains
-- the versions of a file, and the count of their auxiliary entries
pub mod VersionLists
