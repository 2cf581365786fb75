pub mod Fit
pub mod Growth
pub mod Measure
pub mod Nodes
pub mod Shape
pub mod Steps
pub mod Tree
pub mod WorkedFit
