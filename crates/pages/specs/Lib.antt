pub mod Pages
pub mod Sparse
