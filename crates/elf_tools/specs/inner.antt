-- mappings that share no address, as the entries of a map
pub mod Apart
