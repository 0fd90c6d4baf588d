pub mod CallCodes
pub mod Machine
