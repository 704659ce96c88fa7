pub mod Parts
pub mod Lawful
pub mod Breach
pub mod Move
pub mod After
pub mod Legal
pub mod Side
pub mod Opened
