pub mod Regions
pub mod Cells
pub mod Touch
pub mod Claims
