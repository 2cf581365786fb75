pub mod Digits
pub mod ImageLaws
pub mod OffsetLaws
pub mod PlanLaws
pub mod RecordLaws
pub mod SignedLaws
pub mod TrueTrees
