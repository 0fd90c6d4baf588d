pub mod Steps
pub mod Demand3
pub mod Wrong
pub mod Box
