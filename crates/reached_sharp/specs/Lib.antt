pub mod Wrong
pub mod Shown
