pub mod Certificate
pub mod Json
pub mod Laws
pub mod Verdict
pub mod Walked
pub mod Worked
pub mod Written
