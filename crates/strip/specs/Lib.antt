-- What a strip and its calls mean, in the order of 01: Layout and Image its bytes, Opening and Calls what the calls answer. Lists
-- and Refusals have the words that these use, with Outcomes of `tree`. Marked has 01's cases, Demands what is demanded of the calls together,
-- Promises what else is shown. Open, Opened, Written and Read are cited by private functions alone.
pub mod Lists
pub mod Refusals
pub mod Layout
pub mod Image
pub mod Opening
pub mod Calls
pub mod Marked
pub mod Promises
pub mod Demands
pub mod Open
pub mod Opened
pub mod Written
pub mod Read
