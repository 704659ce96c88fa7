-- What the code read of a field and the byte behind it.
use Rattle.std.proofs.Common.{◌≡◌, ℕ, List, [], ◌∷◌, length, Some, None, Option, Bor, sym, refl, ap, ◌∙◌, ◌==◌, if◌then◌else◌, arith}
use Rattle.std.proofs.lemmas.Bool.{ne_eqb}
use Rattle.rules.specs.Parts.{Parts}
use Rattle.notation.specs.Fen.{at_end}
use Rattle.notation.specs.Reader.{behind, past, with, read_as}

abbrev map_value : {U V : Type 0} → (U → V) → Option (U × List ℕ) → Option (V × List ℕ)
map_value f None = None
map_value f (Some x) = Some (f x.0, x.1)

module _ {U V : Type 0} (f : U → V) where
  named : (r : Option (U × Bor (List ℕ))) → read_as f r ≡ map_value f (read_as (λ v. v) r)
  named None = refl
  named (Some x) = refl

  kept : (byte : ℕ) (r : Option (U × List ℕ)) → map_value f (behind byte r) ≡ behind byte (map_value f r)
  kept byte None = refl
  kept byte (Some x) = past_kept (past byte x.1)
    where
      past_kept : (o : Option (List ℕ)) → map_value f (with x.0 o) ≡ with (f x.0) o
      past_kept None = refl
      past_kept (Some t) = refl

  -- a field with a byte behind it says what the field says
  pub read_as_behind : (byte : ℕ) (field result : Option (U × Bor (List ℕ))) → read_as (λ v. v) result ≡ behind byte (read_as (λ v. v) field) → read_as f result ≡ behind byte (read_as f field)
  read_as_behind byte field result e =
      named result ∙ ap (map_value f) e ∙ kept byte (read_as (λ v. v) field) ∙ ap (behind byte) (sym (named field))

-- a text that is read to its end
pub at_end_by_length : (p : Parts) (t : List ℕ) → at_end p t ≡ (if length t == 0 then Some p else None)
at_end_by_length p [] = refl
at_end_by_length p (b ∷ t) = rw (ne_eqb (length (b ∷ t)) 0 (λ e. omega arith))
