pub mod Hardened
-- the chains of hash sections: the length of one, and how many have a length
pub mod ChainWalks
pub mod Counting
-- auxiliary entries of versions
pub mod Auxiliary
