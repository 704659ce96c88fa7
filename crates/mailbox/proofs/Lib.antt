pub mod Walk
pub mod LeapLaws
pub mod Lines
pub mod SquareRuns
