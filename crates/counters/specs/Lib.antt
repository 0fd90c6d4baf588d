pub mod Counters
pub mod Wrong
