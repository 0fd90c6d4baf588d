pub mod AtOnce
pub mod WholeCall
pub mod WhenRefused
pub mod Wrong
