pub mod Setup
pub mod Position
pub mod Judged
