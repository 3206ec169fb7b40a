pub mod Accounts
pub mod Answers
pub mod Exact
pub mod Hex
pub mod Pieces
pub mod Rows
pub mod Verdicts
