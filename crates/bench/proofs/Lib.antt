pub mod Law
pub mod Going
pub mod Tour
