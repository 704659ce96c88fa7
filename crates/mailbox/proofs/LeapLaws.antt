-- Leaps on cells are steps on squares.
use Rattle.std.proofs.Common.{◌≡◌, ℕ, ◌+◌, ◌-◌, ◌<◌, ◌≤◌, Bool, true, false, MatchBool, ◌&&◌, eqb, ltb, List, length, get_or, sym, refl, ap, ◌∙◌, ⊎_elim, arith}
use Rattle.std.specs.List.{AllWithin, HoldsAt}
use Rattle.std.proofs.lemmas.Bool.{and_parts, and_from, eqb-true, eq-eqb, ltb-true, lt-ltb}
use Rattle.board.specs.declared.side.Side.{Side}
use Rattle.board.specs.declared.side.Side.TheVariants.{White, Black}
use Rattle.board.specs.declared.piece.Kind.{Kind}
use Rattle.board.specs.declared.piece.Kind.TheVariants.{Pawn, Knight, Bishop, Rook, Queen, King}
use Rattle.board.specs.Below.{some_below, all_below}
use Rattle.board.specs.Geometry.{knight_step, king_step}
use Rattle.board.specs.Piece.{code, holds}
use Rattle.board.specs.Attack.{pawn_attack, step}
use Rattle.board.proofs.BelowLaws.{all_at, some_at, some_from, some_none, same_tests}
use Rattle.board.specs.Hits.{step_hit}
use Rattle.mailbox.specs.Cells.{cell_of, square_of, codes_of, Bordered, leap_hit, leaps_of, knight_leaps, king_leaps, pawn_leaps}
use Rattle.mailbox.specs.CellFacts.{implies, implied}
use Rattle.mailbox.specs.CellLists.{codes_at, read_cell, Inner, Outer}

abbrev leap : ℕ → List ℕ → ℕ → ℕ
leap t leaps i = cell_of t + get_or leaps i 0 - 21

-- a step from s to t is one of the leaps from t, and a leap that stays on the board is such a step
abbrev into_test : (ℕ → ℕ → Bool) → List ℕ → ℕ → ℕ → Bool
into_test step leaps s t = implies (step s t) (some_below (length leaps) (λ i. eqb (leap t leaps i) (cell_of s)))

abbrev out_test : (ℕ → ℕ → Bool) → List ℕ → ℕ → ℕ → Bool
out_test step leaps t i = ltb (leap t leaps i) 120 && implies (ltb (square_of (leap t leaps i)) 64) (step (square_of (leap t leaps i)) t)

pub record Leaps (step : ℕ → ℕ → Bool) (leaps : List ℕ) : Type 0 where
  into : all_below 64 (λ s. all_below 64 (λ t. into_test step leaps s t)) ≡ true
  out : all_below 64 (λ t. all_below (length leaps) (λ i. out_test step leaps t i)) ≡ true

knights : Leaps knight_step knight_leaps
unfolding all_below some_below cell_of square_of knight_step
knights = record { into = refl; out = refl }

kings : Leaps king_step king_leaps
unfolding all_below some_below cell_of square_of king_step
kings = record { into = refl; out = refl }

pawns : (side : Side) → Leaps (pawn_attack side) (pawn_leaps side)
unfolding all_below some_below cell_of square_of pawn_attack
pawns White = record { into = refl; out = refl }
pawns Black = record { into = refl; out = refl }

code_small : (side : Side) (kind : Kind) → code side kind ≤ 12
code_small White Pawn = omega arith
code_small White Knight = omega arith
code_small White Bishop = omega arith
code_small White Rook = omega arith
code_small White Queen = omega arith
code_small White King = omega arith
code_small Black Pawn = omega arith
code_small Black Knight = omega arith
code_small Black Bishop = omega arith
code_small Black Rook = omega arith
code_small Black Queen = omega arith
code_small Black King = omega arith

module _ (cells : List ℕ) (border : Bordered cells) (t : ℕ) (ht : t < 64) (step : ℕ → ℕ → Bool) (leaps : List ℕ) (law : Leaps step leaps) (side : Side) (kind : Kind) where
  leap_from : leap_hit cells t (code side kind) leaps ≡ true → step_hit side (codes_of cells) kind step t ≡ true
  unfolding leap_hit step_hit
  leap_from h =
      let r = some_at (length leaps) _ h in
      let i = r.0 in
      let x = leap t leaps i in
      let is : get_or cells x 0 ≡ code side kind = eqb-true _ _ r.2 in
      let q = and_parts (ltb x 120) (implies (ltb (square_of x) 64) (step (square_of x) t))
      (all_at (length leaps) (λ i. out_test step leaps t i) (all_at 64 (λ t. all_below (length leaps) (λ i. out_test step leaps t i)) law.out t ht) i r.1) in
      ⊎_elim
      (λ (o : Inner cells x).
      some_from 64 (λ s. holds (codes_of cells) side kind s && step s t) (square_of x) o.0
      (and_from _ _ (eq-eqb _ _ (o.1 ∙ is)) (implied (ltb (square_of x) 64) _ q.1 (lt-ltb _ _ o.0))))
      (λ (o : Outer cells x). absurd (let y = o.1 in let z = code_small side kind in omega arith))
      (read_cell cells border x (ltb-true _ _ q.0))

  leap_to : step_hit side (codes_of cells) kind step t ≡ true → leap_hit cells t (code side kind) leaps ≡ true
  unfolding leap_hit step_hit
  leap_to h =
      let r = some_at 64 (λ s. holds (codes_of cells) side kind s && step s t) h in
      let s = r.0 in
      let q = and_parts (holds (codes_of cells) side kind s) (step s t) r.2 in
      let j = some_at (length leaps) (λ i. eqb (leap t leaps i) (cell_of s))
      (implied (step s t) _ (all_at 64 (λ t. into_test step leaps s t) (all_at 64 (λ s. all_below 64 (λ t. into_test step leaps s t)) law.into s r.1) t ht) q.1) in
      some_from (length leaps) _ j.0 j.1
      (eq-eqb _ _ (ap (λ x. get_or cells x 0) (eqb-true _ _ j.2) ∙ sym (codes_at cells s r.1) ∙ eqb-true _ _ q.0))

  -- the answer of a search over the leaps
  pub leap_answer : (found : ℕ) (r : Bool) → found ≡ code side kind → r ≡ leap_hit cells t found leaps → r ≡ step_hit side (codes_of cells) kind step t
  leap_answer found r e h = h ∙ ap (λ v. leap_hit cells t v leaps) e ∙ same_tests _ _ leap_from leap_to

-- the leaps of each kind
pub leap_law : (side : Side) (kind : Kind) → Leaps (step side kind) (leaps_of side kind)
unfolding all_below some_below cell_of square_of
leap_law side Pawn = pawns side
leap_law side Knight = knights
leap_law side Bishop = record { into = refl; out = refl }
leap_law side Rook = record { into = refl; out = refl }
leap_law side Queen = record { into = refl; out = refl }
leap_law side King = kings

-- the answer of a search over a list, as a test of its places
pub some_place : (p : ℕ → Bool) (xs : List ℕ) (r : Bool)
    → MatchBool r ((k : ℕ) × (k < length xs) × HoldsAt (λ x. p x ≡ true) xs k) (AllWithin (λ x. p x ≡ false) xs 0 (length xs))
    → r ≡ some_below (length xs) (λ i. p (get_or xs i 0))
some_place p xs true found = sym (some_from (length xs) (λ i. p (get_or xs i 0)) found.0 found.1 (found.2 0))
some_place p xs false none = sym (some_none (length xs) (λ i. p (get_or xs i 0)) (λ k h. none k 0 (omega arith) h))
