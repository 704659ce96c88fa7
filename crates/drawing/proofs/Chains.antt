-- One text behind another.
use Rattle.std.proofs.Common.{◌≡◌, ℕ, if◌then◌else◌, List, ◌++◌, Ok, Err, OnOk, Result, is_ok, append_assoc}

-- five texts written one by one, the last of them if the last call succeeds
pub five : {A E : Type 0} (r : Result A E) (v₀ v₁ v₂ v₃ v₄ v₅ a₁ a₂ a₃ a₄ a₅ : List ℕ)
    → v₁ ≡ v₀ ++ a₁ → v₂ ≡ v₁ ++ a₂ → v₃ ≡ v₂ ++ a₃ → v₄ ≡ v₃ ++ a₄ → v₅ ≡ (if is_ok r then v₄ ++ a₅ else v₄)
    → OnOk r (v₅ ≡ v₀ ++ (a₁ ++ (a₂ ++ (a₃ ++ (a₄ ++ a₅)))))
five (Ok x) v₀ v₁ v₂ v₃ v₄ v₅ a₁ a₂ a₃ a₄ a₅ e₁ e₂ e₃ e₄ e₅ = simp (e₅, e₄, e₃, e₂, e₁, append_assoc)
five (Err x) v₀ v₁ v₂ v₃ v₄ v₅ a₁ a₂ a₃ a₄ a₅ e₁ e₂ e₃ e₄ e₅ = tt
