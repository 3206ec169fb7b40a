pub mod Runs
pub mod Law
pub mod Slips
pub mod Calls
pub mod Tour
pub mod Called
