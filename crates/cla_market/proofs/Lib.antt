mod Examples
pub mod PlainWords
pub mod ReadBackLaws
pub mod SpellLaws
pub mod WrittenLaws
