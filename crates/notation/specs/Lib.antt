pub mod Decimal
pub mod Reader
pub mod Fields
pub mod Fen
pub mod Written
pub mod Answers
