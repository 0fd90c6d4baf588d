pub mod Laws
pub mod Ids
pub mod Zeros
