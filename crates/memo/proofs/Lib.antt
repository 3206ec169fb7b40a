pub mod Packing
pub mod Keys
pub mod Tabled
pub mod Pass
pub mod Ordered
pub mod Turned
