pub mod IntWords
pub mod WordLaws
