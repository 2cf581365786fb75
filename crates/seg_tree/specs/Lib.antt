pub mod Adopted
pub mod Grown
pub mod Held
pub mod Linked
pub mod Reached
pub mod ReachedLaws
pub mod Slots
pub mod Trees
