pub mod Cursors
pub mod Refinement
pub mod View
pub mod ViewOf
