pub mod CallLaws
pub mod FileLaws
pub mod PartLaws
