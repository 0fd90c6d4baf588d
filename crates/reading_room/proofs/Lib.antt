pub mod ReadingRoom
