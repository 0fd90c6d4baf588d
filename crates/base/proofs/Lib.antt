pub mod Tests
pub mod Lists
pub mod Chains
pub mod Rules
