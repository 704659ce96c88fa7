-- The squares strictly between two of a line are some that steps along it come to.
use Rattle.std.proofs.Common.{ap, ◌≡◌, ℕ, ◌+◌, ◌-◌, ◌*◌, ◌/◌, ◌%◌, ◌<◌, ◌≤◌, ◌⊎◌, List, get_or, sym, ◌∙◌, subst, inl, inr, ⊎_elim, mul-le-mul_left, mul-one, mul-add, arith}
use Rattle.std.proofs.lemmas.Bool.{cases_lt, cases_eq, cond-true, cond-false, eq-eqb, ne_eqb, lt-ltb, le-ltb}
use Rattle.board.specs.Geometry.{file, rank}
use Rattle.board.specs.Rule.{Line, Rank, File, Diagonal, On, StrictlyBetween}
use Rattle.moves.specs.Path.{Free, line_step}

pub on_turned : (l : Line) (s t : ℕ) → On l s t → On l t s
on_turned Rank s t h = sym h
on_turned File s t h = sym h
on_turned Diagonal s t h = omega arith

pub between_turned : (s u t : ℕ) → StrictlyBetween s u t → StrictlyBetween t u s
between_turned s u t (a, b, f, r) = (b, a, omega arith, omega arith)

-- a square that a number of steps from low comes to
abbrev Stepped : Line → ℕ → ℕ → ℕ → Type 0
Stepped l low u high = On l low u × On l u high × StrictlyBetween low u high

abbrev Comes : ℕ → ℕ → ℕ → ℕ → Type 0
Comes step low u high = (j : ℕ) × (0 < j) × (u ≡ low + step * j) × (u < high)

-- by the four steps
module _ (low high : ℕ) (l : low < high) (h : high < 64) where
  rank_back : rank low ≡ rank high → (u : ℕ) → Stepped Rank low u high → Comes 1 low u high
  rank_back on u (a, b, (p, q, f, r)) = (u - low, omega arith, omega arith, omega arith)

  file_back : file low ≡ file high → (u : ℕ) → Stepped File low u high → Comes 8 low u high
  file_back on u (a, b, (p, q, f, r)) = (rank u - rank low, omega arith, omega arith, omega arith)

  up_back : On Diagonal low high → file low < file high → (u : ℕ) → Stepped Diagonal low u high → Comes 9 low u high
  up_back on k u (a, b, (p, q, f, r)) = (rank u - rank low, omega arith, omega arith, omega arith)

  down_back : On Diagonal low high → file high < file low → (u : ℕ) → Stepped Diagonal low u high → Comes 7 low u high
  down_back on k u (a, b, (p, q, f, r)) = (rank u - rank low, omega arith, omega arith, omega arith)

-- all lines at once
module _ (low high : ℕ) (l : low < high) (h : high < 64) where
  abbrev step : ℕ
  step = line_step low high

  step_one : rank low ≡ rank high → step ≡ 1
  step_one e = cond-true _ _ _ (eq-eqb (low / 8) (high / 8) e)

  step_eight : file low ≡ file high → step ≡ 8
  step_eight e = cond-false _ _ _ (ne_eqb (low / 8) (high / 8) (λ q. omega arith)) ∙ cond-true _ _ _ (eq-eqb (low % 8) (high % 8) e)

  step_nine : On Diagonal low high → file low < file high → step ≡ 9
  step_nine on k =
      cond-false _ _ _ (ne_eqb (low / 8) (high / 8) (λ q. omega arith)) ∙ cond-false _ _ _ (ne_eqb (low % 8) (high % 8) (λ q. omega arith))
      ∙ cond-true _ _ _ (lt-ltb (low % 8) (high % 8) k)

  step_seven : On Diagonal low high → file high < file low → step ≡ 7
  step_seven on k =
      cond-false _ _ _ (ne_eqb (low / 8) (high / 8) (λ q. omega arith)) ∙ cond-false _ _ _ (ne_eqb (low % 8) (high % 8) (λ q. omega arith))
      ∙ cond-false _ _ _ (le-ltb (low % 8) (high % 8) (omega arith))

  slope : On Diagonal low high → (file low < file high) ⊎ (file high < file low)
  slope on = ⊎_elim
      (λ (k : file low < file high). inl k)
      (λ (k : file high ≤ file low). inr (omega arith))
      (cases_lt (file low) (file high))

  -- what lies strictly between, steps come to
  pub steps_back : (x : Line) → On x low high → (u : ℕ) → Stepped x low u high → Comes step low u high
  steps_back Rank on u b = rw (step_one on) (rank_back low high l h on u b)
  steps_back File on u b = rw (step_eight on) (file_back low high l h on u b)
  steps_back Diagonal on u b = ⊎_elim
      (λ (k : file low < file high). rw (step_nine on k) (up_back low high l h on k u b))
      (λ (k : file high < file low). rw (step_seven on k) (down_back low high l h on k u b))
      (slope on)

-- the same from whichever end
pub free_turned : (l : Line) (codes : List ℕ) (s t : ℕ) → Free l codes s t → Free l codes t s
free_turned l codes s t f u h a b c = f u h (on_turned l u s b) (on_turned l t u a) (between_turned t u s c)

-- one turn of the walk from the lower square to the higher
pub walk_on : (low step at k : ℕ) → at ≡ low + step * (k + 1) → at + step ≡ low + step * (k + 1 + 1)
walk_on low step at k e = let m = mul-add step (k + 1) 1 in let o = mul-one step in omega arith

pub walk_emptied : (codes : List ℕ) (low step at k : ℕ) → at ≡ low + step * (k + 1) → get_or codes at 0 ≡ 0
    → ((j : ℕ) → 0 < j → j ≤ k → get_or codes (low + step * j) 0 ≡ 0) → (j : ℕ) → 0 < j → j ≤ k + 1 → get_or codes (low + step * j) 0 ≡ 0
walk_emptied codes low step at k e z f j p q = ⊎_elim
    (λ (h : j ≡ k + 1). rw (h, ← e) z)
    (λ (h : j ≡ k + 1 → ⊥). f j p (omega arith))
    (cases_eq j (k + 1))

-- a walk that stops at a piece, and one that comes to its end
module _ (codes : List ℕ) (low high step at k : ℕ) (rises : low < high) (inside : high < 64) (es : step ≡ line_step low high) (ea : at ≡ low + step * (k + 1))
    (l : Line) (on : On l low high) where
  same_place : (j : ℕ) → low + step * j ≡ low + line_step low high * j
  same_place j = ap (λ (x : ℕ). low + x * j) es

  pub walk_ended : high ≤ at → ((j : ℕ) → 0 < j → j ≤ k → get_or codes (low + step * j) 0 ≡ 0) → Free l codes low high
  walk_ended h f u hu a b c =
      let t = steps_back low high rises inside l on u (a, b, c) in
      let e : low + step * t.0 ≡ low + line_step low high * t.0 = same_place t.0 in
      subst (λ (x : ℕ). get_or codes x 0 ≡ 0) (e ∙ sym t.2) (⊎_elim
      (λ (i : t.0 < k + 1). f t.0 t.1 (omega arith))
      (λ (i : k + 1 ≤ t.0). absurd (let m = mul-le-mul_left step i in omega (arith, t.2, t.3)))
      (cases_lt t.0 (k + 1)))
