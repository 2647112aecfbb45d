pub mod AsciiWords
pub mod DigitValues
pub mod FirstBytes
pub mod WordTable
pub mod FormedMachine
pub mod FormedTexts
pub mod StatementCount
pub mod LongestSign
