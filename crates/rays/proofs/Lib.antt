pub mod SetLaws
pub mod TableLaws
pub mod LineLaws
