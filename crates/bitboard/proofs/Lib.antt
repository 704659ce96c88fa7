pub mod HitLaws
pub mod ChangeLaws
