pub mod Resets
pub mod Figures
pub mod Steps
pub mod Counted
pub mod Sharp
