-- Laws that the proofs of the functions cite, each file about what its first line says; Promises and Demands prove what the files of
-- that name in specs/ state, Marked the table of marked cases.
pub mod Checks
pub mod Counts
pub mod Demands
pub mod Gaps
pub mod Images
pub mod Layouts
pub mod Marked
pub mod Nines
pub mod OpenImages
pub mod OpenStrips
pub mod Openings
pub mod Pieces
pub mod Plans
pub mod Promises
pub mod Readings
pub mod Sweeps
pub mod Verdicts
pub mod Exits
