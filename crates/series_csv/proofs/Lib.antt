pub mod ColumnLaws
pub mod LineLaws
pub mod NearLaws
pub mod RowLaws
pub mod TextLaws
