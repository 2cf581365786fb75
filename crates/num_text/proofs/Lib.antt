pub mod CellLaws
pub mod ScaleLaws
pub mod Written
