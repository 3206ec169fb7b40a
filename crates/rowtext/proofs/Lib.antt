pub mod Cutting
pub mod Digits
pub mod Judging
pub mod Reading
pub mod Sole
pub mod Telling
