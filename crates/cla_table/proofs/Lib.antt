pub mod KeptLaws
pub mod PlaceLaws
pub mod SumLaws
pub mod TableLaws
