pub mod Action
pub mod Path
pub mod Change
pub mod Castling
pub mod Table
