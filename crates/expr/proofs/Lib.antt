pub mod FactLaws
pub mod NameLaws
pub mod Numbered
pub mod Products
pub mod Ranks
