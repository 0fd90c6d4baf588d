pub mod Comms
pub mod Sets
