pub mod Faults
pub mod Form
pub mod Kinds
pub mod Marks
pub mod Questions
pub mod Words
