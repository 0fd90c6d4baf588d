pub mod AtOnce
pub mod Kept
pub mod WholeCall
pub mod WhenRefused
pub mod Sharp
