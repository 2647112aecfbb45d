pub mod PartLaws
pub mod PieceLaws
pub mod TextLaws
