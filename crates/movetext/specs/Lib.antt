pub mod Said
pub mod Castling
pub mod Marks
pub mod Found
