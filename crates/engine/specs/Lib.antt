pub mod Frames
pub mod Machine
pub mod Finding
