pub mod BelowLaws
pub mod AttackLaws
pub mod HitLaws
pub mod PutLaws
pub mod NextLaws
pub mod RuleLaws
pub mod ChainLaws
pub mod SquareLaws
