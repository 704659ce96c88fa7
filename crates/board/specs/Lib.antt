pub mod Below
pub mod Geometry
pub mod Piece
pub mod Attack
pub mod Hits
pub mod Meaning
pub mod Rule
