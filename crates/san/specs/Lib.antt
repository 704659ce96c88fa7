pub mod Said
pub mod Written
pub mod Text
pub mod Sources
pub mod Theorems
pub mod Opened
