-- What the program prints: Texts has the text for any input, Marked the texts that 01 prints, Promises what is shown of them besides the
-- contracts.
pub mod Texts
pub mod Marked
pub mod Promises
