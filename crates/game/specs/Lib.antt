pub mod Record
pub mod Lines
pub mod Tags
pub mod Words
pub mod Results
pub mod Calls
pub mod Standing
pub mod Opened
