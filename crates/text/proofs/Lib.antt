pub mod Laws
mod Changes
mod Moves
