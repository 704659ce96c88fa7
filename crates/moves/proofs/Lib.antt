mod ChangeLaws
pub mod ActionLaws
pub mod TrialLaws
mod PromotionLaws
mod PlayLaws
mod PathLaws
mod ReachLaws
pub mod Listed
