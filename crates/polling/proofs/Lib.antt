pub mod CutOff
pub mod Laws
