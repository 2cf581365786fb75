-- Lemmas of each command.
pub mod Append
pub mod Check
pub mod Column
pub mod Gen
pub mod Load
pub mod New
pub mod Once
pub mod Prove
pub mod Query
pub mod Session
pub mod Verify
