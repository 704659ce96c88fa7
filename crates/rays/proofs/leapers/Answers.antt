use Rattle.std.proofs.Common.{◌≡◌, ℕ, Bool, false, ◌&&◌, sym, refl, ◌∙◌, rules}
use Rattle.std.proofs.lemmas.Bool.{and_right}
use Rattle.rays.specs.Sets.{has}
use Rattle.rays.proofs.SetLaws.{has_zero}
use Rattle.rays.proofs.leapers.Goals as goal

none : (s : ℕ) (b : Bool) → has 0 s ≡ (b && false)
none s b = has_zero s ∙ sym (and_right b _ refl)

pub returns-in-Bishop-default : goal.returns-in-Bishop-default
returns-in-Bishop-default c = search (rules, none)
