-- Walking over the squares, one step at a time, in a direction.
use Rattle.std.proofs.Common.{◌≡◌, ℕ, ◌+◌, ◌-◌, ◌<◌, ◌≤◌, Bool, true, cond, not, ◌&&◌, eqb, ltb, leb, get_or, sym, refl, ◌∙◌, arith}
use Rattle.std.proofs.lemmas.Bool.{leb-true, not-true, both_ways, cond-true, cond-false, lt-ltb, le-ltb}
use Rattle.std.proofs.lemmas.Bool.Decides.{nat_tests}
use Rattle.board.specs.Below.{all_below}
use Rattle.board.specs.Geometry.{Direction, East, NorthWest, North, NorthEast, West, SouthEast, South, SouthWest, direction, beyond, file, rank}
use Rattle.board.proofs.BelowLaws.{all_at}
use Rattle.mailbox.specs.Cells.{cell_of, square_of, steps}
use Rattle.mailbox.specs.CellFacts.{cell_high}

-- u is the next square after t in the direction
abbrev pub adjacent : Direction → ℕ → ℕ → Bool
adjacent East t u = eqb (rank u) (rank t) && eqb (file u) (file t + 1)
adjacent West t u = eqb (rank u) (rank t) && eqb (file u + 1) (file t)
adjacent North t u = eqb (rank u) (rank t + 1) && eqb (file u) (file t)
adjacent South t u = eqb (rank u + 1) (rank t) && eqb (file u) (file t)
adjacent NorthEast t u = eqb (rank u) (rank t + 1) && eqb (file u) (file t + 1)
adjacent NorthWest t u = eqb (rank u) (rank t + 1) && eqb (file u + 1) (file t)
adjacent SouthEast t u = eqb (rank u + 1) (rank t) && eqb (file u) (file t + 1)
adjacent SouthWest t u = eqb (rank u + 1) (rank t) && eqb (file u + 1) (file t)

-- how far a square lies in a direction, counted from the edge where that direction begins
abbrev pub progress : Direction → ℕ → ℕ
progress East u = file u
progress West u = 7 - file u
progress North u = rank u
progress South u = 7 - rank u
progress NorthEast u = rank u
progress SouthWest u = 7 - rank u
progress NorthWest u = rank u
progress SouthEast u = 7 - rank u

-- the next square lies beyond
pub next_beyond : (d : Direction) (t u : ℕ) → adjacent d t u ≡ true → beyond d t u ≡ true
next_beyond East t u a = grind (arith, nat_tests)
next_beyond NorthWest t u a = grind (arith, nat_tests)
next_beyond North t u a = grind (arith, nat_tests)
next_beyond NorthEast t u a = grind (arith, nat_tests)
next_beyond West t u a = grind (arith, nat_tests)
next_beyond SouthEast t u a = grind (arith, nat_tests)
next_beyond South t u a = grind (arith, nat_tests)
next_beyond SouthWest t u a = grind (arith, nat_tests)

-- and so does the next after a square beyond
pub beyond_next : (d : Direction) (t u v : ℕ) → beyond d t u ≡ true → adjacent d u v ≡ true → beyond d t v ≡ true
beyond_next East t u v b a = grind (arith, nat_tests)
beyond_next NorthWest t u v b a = grind (arith, nat_tests)
beyond_next North t u v b a = grind (arith, nat_tests)
beyond_next NorthEast t u v b a = grind (arith, nat_tests)
beyond_next West t u v b a = grind (arith, nat_tests)
beyond_next SouthEast t u v b a = grind (arith, nat_tests)
beyond_next South t u v b a = grind (arith, nat_tests)
beyond_next SouthWest t u v b a = grind (arith, nat_tests)

-- what lies beyond a square is the next one or lies beyond that
pub step : (d : Direction) (t u s : ℕ) → adjacent d t u ≡ true → beyond d t s ≡ true → (s ≡ u → ⊥) → beyond d u s ≡ true
step East t u s a b n = grind (arith, nat_tests)
step NorthWest t u s a b n = grind (arith, nat_tests)
step North t u s a b n = grind (arith, nat_tests)
step NorthEast t u s a b n = grind (arith, nat_tests)
step West t u s a b n = grind (arith, nat_tests)
step SouthEast t u s a b n = grind (arith, nat_tests)
step South t u s a b n = grind (arith, nat_tests)
step SouthWest t u s a b n = grind (arith, nat_tests)

-- nothing lies between a square and the next
pub no_gap : (d : Direction) (t u s : ℕ) → adjacent d t u ≡ true → beyond d t s ≡ true → beyond d s u ≡ true → ⊥
no_gap East t u s a b e = grind (arith, nat_tests)
no_gap NorthWest t u s a b e = grind (arith, nat_tests)
no_gap North t u s a b e = grind (arith, nat_tests)
no_gap NorthEast t u s a b e = grind (arith, nat_tests)
no_gap West t u s a b e = grind (arith, nat_tests)
no_gap SouthEast t u s a b e = grind (arith, nat_tests)
no_gap South t u s a b e = grind (arith, nat_tests)
no_gap SouthWest t u s a b e = grind (arith, nat_tests)

-- a step goes one further
pub further : (d : Direction) (t u k : ℕ) → t < 64 → u < 64 → adjacent d t u ≡ true → k ≤ progress d t → k + 1 ≤ progress d u
further East t u k ht hu a h = grind (arith, nat_tests)
further NorthWest t u k ht hu a h = grind (arith, nat_tests)
further North t u k ht hu a h = grind (arith, nat_tests)
further NorthEast t u k ht hu a h = grind (arith, nat_tests)
further West t u k ht hu a h = grind (arith, nat_tests)
further SouthEast t u k ht hu a h = grind (arith, nat_tests)
further South t u k ht hu a h = grind (arith, nat_tests)
further SouthWest t u k ht hu a h = grind (arith, nat_tests)

-- nothing lies beyond the furthest
pub furthest : (d : Direction) (u s : ℕ) → u < 64 → s < 64 → 7 ≤ progress d u → beyond d u s ≡ true → ⊥
furthest East u s hu hs h b = grind (arith, nat_tests)
furthest NorthWest u s hu hs h b = grind (arith, nat_tests)
furthest North u s hu hs h b = grind (arith, nat_tests)
furthest NorthEast u s hu hs h b = grind (arith, nat_tests)
furthest West u s hu hs h b = grind (arith, nat_tests)
furthest SouthEast u s hu hs h b = grind (arith, nat_tests)
furthest South u s hu hs h b = grind (arith, nat_tests)
furthest SouthWest u s hu hs h b = grind (arith, nat_tests)

steps_tested : all_below 8 (λ d. leb (get_or steps d 0) 22) ≡ true
unfolding all_below
steps_tested = refl

pub steps_le : (d : ℕ) → d < 8 → get_or steps d 0 ≤ 22
steps_le d h = leb-true _ _ (all_at 8 (λ d. leb (get_or steps d 0) 22) steps_tested d h)

-- the cell one step on
abbrev pub stepped : ℕ → ℕ → ℕ
stepped d u = cell_of u + get_or steps d 0 - 11

pub stepped_in : (d u : ℕ) → d < 8 → u < 64 → stepped d u < 120
stepped_in d u hd hu = let a = cell_high u hu in let b = steps_le d hd in omega arith

-- it is the next square's, or the border's where nothing lies beyond
abbrev edge_test : ℕ → ℕ → Bool
edge_test d u = all_below 64 (λ s. not (beyond (direction d) u s))

abbrev step_test : ℕ → ℕ → Bool
step_test u d = cond (ltb (square_of (stepped d u)) 64) (adjacent (direction d) u (square_of (stepped d u))) (edge_test d u)

step_tested : all_below 64 (λ u. all_below 8 (λ d. step_test u d)) ≡ true
unfolding all_below cell_of square_of
step_tested = refl

step_at : (d u : ℕ) → d < 8 → u < 64 → step_test u d ≡ true
step_at d u hd hu = all_at 8 (λ d. step_test u d) (all_at 64 (λ u. all_below 8 (λ d. step_test u d)) step_tested u hu) d hd

pub stepped_on : (d u : ℕ) → d < 8 → u < 64 → square_of (stepped d u) < 64 → adjacent (direction d) u (square_of (stepped d u)) ≡ true
stepped_on d u hd hu h = sym (cond-true _ _ (edge_test d u) (lt-ltb _ _ h)) ∙ step_at d u hd hu

pub stepped_off : (d u s : ℕ) → d < 8 → u < 64 → s < 64 → 64 ≤ square_of (stepped d u) → beyond (direction d) u s ≡ true → ⊥
stepped_off d u s hd hu hs h b =
    let e : edge_test d u ≡ true = sym (cond-false _ (adjacent (direction d) u (square_of (stepped d u))) _ (le-ltb _ _ h)) ∙ step_at d u hd hu in
    both_ways _ (not-true _ (all_at 64 (λ s. not (beyond (direction d) u s)) e s hs)) b
