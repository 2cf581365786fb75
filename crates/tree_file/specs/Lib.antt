pub mod Bytes
pub mod Image
pub mod Laws
pub mod Offsets
pub mod Record
