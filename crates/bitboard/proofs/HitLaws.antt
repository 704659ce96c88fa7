-- Attacks on a square, from sets of squares.
use Rattle.std.proofs.Common.{◌≡◌, ℕ, ◌%◌, ◌<◌, Bool, true, false, cond, not, ◌&&◌, ◌||◌, eqb, ltb, List, get_or, refl, ap, ◌∙◌}
use Rattle.std.proofs.Math.Bool.{not-not}
use Rattle.std.proofs.lemmas.Bool.{ne_eqb, lt-ltb, false≢true}
use Rattle.board.specs.declared.side.Side.{Side}
use Rattle.board.specs.declared.piece.Kind.{Kind}
use Rattle.board.specs.declared.piece.Kind.TheVariants.{Bishop, Rook, Queen}
use Rattle.board.specs.Below.{some_below, ◌and_then◌}
use Rattle.board.specs.Geometry.{direction, beyond}
use Rattle.board.specs.Piece.{holds}
use Rattle.board.specs.Attack.{slides, clear_between, attacks_along}
use Rattle.board.proofs.BelowLaws.{some_same, all_same}
use Rattle.board.proofs.AttackLaws.{slides_zero}
use Rattle.board.specs.Hits.{step_hit, line_hit}
use Rattle.rays.specs.Sets.{has, SetOf}
use Rattle.rays.specs.Lines.{free_between, first_on}
use Rattle.rays.proofs.LineLaws.{lies_within}

-- a piece that steps: its squares meet those from which it attacks
pub step_answer : (side : Side) (codes : List ℕ) (kind : Kind) (step : ℕ → ℕ → Bool) (t at from : ℕ) → t < 64
    → SetOf (holds codes side kind) at → SetOf (λ s. ltb t 64 && step s t) from
    → some_below 64 (λ s. has at s && has from s) ≡ step_hit side codes kind step t
unfolding step_hit
step_answer side codes kind step t at from ht f g =
    some_same 64 _ _ (λ s h. rw (f s h, g s h) (ap (λ b. holds codes side kind s && (b && step s t)) (lt-ltb t 64 ht)))

regroup : (slider ahead full clear : Bool) → (slider ≡ true → full ≡ true) → (slider && ((ahead && full) and_then clear)) ≡ ((slider && ahead) and_then clear)
regroup true true true clear f = refl
regroup true true false clear f = absurd (false≢true (f refl))
regroup true false full clear f = refl
regroup false ahead full clear f = refl

-- a line piece: the first piece in the direction is one
line_answer : (side : Side) (codes : List ℕ) (d t occupied some : ℕ) → d < 8 → t < 64
    → SetOf (λ s. not (eqb (get_or codes s 0) 0)) occupied → SetOf (λ s. slides side d (get_or codes s 0)) some
    → some_below 64 (λ s. has some s && first_on occupied d t s) ≡ line_hit side codes d t
unfolding line_hit first_on attacks_along free_between clear_between
line_answer side codes d t occupied some hd ht f g =
    some_same 64 _ _ (λ s h.
    let clear : free_between occupied d t s ≡ clear_between codes d t s =
    all_same 64 _ _ (λ u l. ap (λ b. not (beyond (direction d) t u && beyond (direction d) u s) || b) (ap not (f u l) ∙ not-not _)) in
    rw (g s h, lies_within d t s hd ht, f s h, clear)
    (regroup (slides side d (get_or codes s 0)) (beyond (direction d) t s) (not (eqb (get_or codes s 0) 0)) (clear_between codes d t s)
    (λ e. ap not (ne_eqb _ _ (slides_zero side d (get_or codes s 0) e)))))

-- the line pieces of a direction: the queens, with the rooks along ranks and files, and with the bishops along diagonals
abbrev pub sliders : ℕ → ℕ → ℕ → ℕ
sliders straight diagonal d = cond (eqb (d % 2) 0) straight diagonal

abbrev pub first_hit : ℕ → ℕ → ℕ → ℕ → ℕ → Bool
first_hit straight diagonal occupied d t = some_below 64 (λ s. has (sliders straight diagonal d) s && first_on occupied d t s)

module _ (side : Side) (codes : List ℕ) (straight diagonal occupied t : ℕ) (ht : t < 64) (full : SetOf (λ s. not (eqb (get_or codes s 0) 0)) occupied)
    (rooks : SetOf (λ s. holds codes side Queen s || holds codes side Rook s) straight)
    (bishops : SetOf (λ s. holds codes side Queen s || holds codes side Bishop s) diagonal) where
  picked : (d : ℕ) (even : Bool) → eqb (d % 2) 0 ≡ even → SetOf (λ s. slides side d (get_or codes s 0)) (cond even straight diagonal)
  unfolding slides
  picked d true e s h = rw e (rooks s h)
  picked d false e s h = rw e (bishops s h)

  pub first_line : (d : ℕ) → d < 8 → first_hit straight diagonal occupied d t ≡ line_hit side codes d t
  first_line d hd = line_answer side codes d t occupied (sliders straight diagonal d) hd ht full (picked d (eqb (d % 2) 0) refl)
