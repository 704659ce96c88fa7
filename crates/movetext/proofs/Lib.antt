pub mod Castling
pub mod Reading
mod Finding
mod Writing
