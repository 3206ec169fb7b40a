pub mod Rows
pub mod Tables
pub mod Layout
pub mod Making
pub mod Entries
pub mod Rings
