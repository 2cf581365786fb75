pub mod Laws
pub mod Singles
