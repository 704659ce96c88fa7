-- A square taken out of the word of a code, and one put into it.
use Rattle.std.proofs.Common.{◌≡◌, ℕ, suc, ◌<◌, ◌≤◌, ◌≢◌, set, Bool, false, not, ◌&&◌, ◌||◌, eqb, List, get_or, sym, refl, ap, ◌∙◌, ⊎_elim}
use Rattle.std.proofs.Math.Bool.{and-true}
use Rattle.std.proofs.lemmas.Bool.{and_right, cases_eq, eq-eqb, ne_eqb}
use Rattle.rays.specs.Sets.{has, SetOf}
use Rattle.bitboard.specs.Codes.{code_at, codes_of, Apart}
use Rattle.bitboard.specs.CodeLaws.{write_apart, write_codes}

-- what a step at a square leaves of the word of a code, where the step is a test of the square and of what was there; the other words stay
abbrev pub Chosen : (Bool → Bool → Bool) → ℕ → ℕ → List ℕ → List ℕ → Type 0
Chosen step code square words after = (i : ℕ) → i < 12 → code ≡ suc i → SetOf (λ s. step (eqb s square) (has (get_or words i 0) s)) (get_or after i 0)

abbrev pub Others : ℕ → List ℕ → List ℕ → Type 0
Others code words after = (i : ℕ) → i < 12 → code ≢ suc i → get_or after i 0 ≡ get_or words i 0

each_word : (step : Bool → Bool → Bool) → ((x : Bool) → step false x ≡ x) → (code square : ℕ) (words after : List ℕ)
    → Chosen step code square words after → Others code words after
    → (i : ℕ) → i < 12 → SetOf (λ s. step (eqb s square && eqb code (suc i)) (has (get_or words i 0) s)) (get_or after i 0)
each_word step keeps code square words after chosen others i h s l =
    let was = has (get_or words i 0) s in
    ⊎_elim
    (λ (e : code ≡ suc i). chosen i h e s l ∙ ap (λ b. step b was) (sym (ap (λ b. eqb s square && b) (eq-eqb code (suc i) e) ∙ and-true (eqb s square))))
    (λ (d : code ≡ suc i → ⊥). ap (λ w. has w s) (others i h d) ∙ sym (ap (λ b. step b was) (and_right (eqb s square) _ (ne_eqb code (suc i) d)) ∙ keeps was))
    (cases_eq code (suc i))

-- the old code's word without the square, and then the new code's with it
pub written : (words mid after : List ℕ) (square old c : ℕ) → square < 64 → c ≤ 12 → Apart words → old ≡ code_at words square
    → Chosen (λ b x. not b && x) old square words mid → Others old words mid → Chosen ◌||◌ c square mid after → Others c mid after
    → Apart after × (codes_of after ≡ set (codes_of words) square c)
written words mid after square old c hs hc apart is-old out kept into kept' =
    let lifted = each_word (λ b x. not b && x) (λ x. refl) old square words mid out kept in
    let placed = each_word ◌||◌ (λ x. refl) c square mid after into kept' in
    (write_apart words mid after square old c hs hc apart is-old lifted placed, write_codes words mid after square old c hs hc apart is-old lifted placed)
