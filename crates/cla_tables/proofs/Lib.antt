pub mod FormLaws
pub mod KeptLaws
pub mod SizeLaws
pub mod CutLaws
pub mod StatsLaws
pub mod KeptTuples
pub mod KeptBytes
