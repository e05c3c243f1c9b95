-- What the level codes mean. A reader of the public contracts needs Lists, Bits, Codes, Choice, Fetch, Marks and Decode; Marked has
-- the marked parts, Promises what is shown besides the contracts. Measure, Written, Merging and Streams are cited by private functions
-- alone.
pub mod Lists
pub mod Bits
pub mod Codes
pub mod Choice
pub mod Fetch
pub mod Marks
pub mod Decode
pub mod Marked
pub mod Promises
pub mod Measure
pub mod Written
pub mod Merging
pub mod Streams
