pub mod Fields
pub mod Finding
pub mod Growing
pub mod Marking
pub mod Referring
pub mod Reporting
pub mod Settling
pub mod Smallest
