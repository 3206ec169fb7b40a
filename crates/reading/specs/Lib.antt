pub mod Reads
pub mod Replies
pub mod Putting
pub mod Once
pub mod Truth
pub mod Counts
pub mod Runs
pub mod Promises
