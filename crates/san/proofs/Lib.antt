pub mod Marks
pub mod Alone
pub mod Reading
pub mod Spelling
pub mod Listing
pub mod SourceLaws
pub mod Sans
