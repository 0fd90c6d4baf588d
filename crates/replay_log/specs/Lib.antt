pub mod Replay
pub mod Feed
pub mod Run
