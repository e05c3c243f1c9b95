-- What the tree means. A reader of the public contracts needs Shape, Lists, Stored, Levels, Outcomes, Times, Walks, Sweeps, Listing,
-- LevelMarks, DecodedLevels and Chosen; Marked has lists with what their nodes store, Promises what is shown besides the contracts. Filled,
-- Standing, Merged and Remembering are cited by private functions alone.
pub mod Shape
pub mod Lists
pub mod Stored
pub mod Levels
pub mod LevelMarks
pub mod Outcomes
pub mod Times
pub mod Walks
pub mod Sweeps
pub mod Listing
pub mod DecodedLevels
pub mod Chosen
pub mod Marked
pub mod Promises
pub mod Filled
pub mod Standing
pub mod Merged
pub mod Remembering
