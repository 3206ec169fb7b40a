pub mod Turns
pub mod Entering
pub mod Finding
pub mod Resuming
pub mod Settings
