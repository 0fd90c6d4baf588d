pub mod Always
pub mod Kept
pub mod Owners
pub mod Pool
pub mod LiveCells
