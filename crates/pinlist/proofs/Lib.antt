-- Laws that the proofs of the functions cite, each file about what its first line says.
pub mod Decimals
pub mod Pieces
pub mod Accesses
pub mod Listings
