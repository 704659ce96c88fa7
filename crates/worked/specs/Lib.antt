pub mod Examples
pub mod Worked
pub mod Counts
