pub mod Ids
pub mod SomeIds
pub mod Cases
pub mod Limit
pub mod Places
