pub mod Texts
pub mod Put
