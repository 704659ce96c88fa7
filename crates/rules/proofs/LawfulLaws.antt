-- The laws of a position, one by one.
use Rattle.std.proofs.Common.{◌≡◌, ℕ, zero, suc, ◌+◌, ◌<◌, ◌≤◌, Bool, true, false, cond, eqb, leb, List, [], ◌∷◌, length, get_or, None, refl, ap, ◌∙◌, ⊎_elim, arith}
use Rattle.std.proofs.lemmas.List.Sums.{sum_by-cons}
use Rattle.std.proofs.lemmas.List.{get_or_past}
use Rattle.std.proofs.lemmas.Bool.{and_parts, and_from, cases_lt, eqb-true, eq-eqb, leb-true, le-leb, both_ways}
use Rattle.board.specs.Below.{all_below}
use Rattle.board.specs.Meaning.{Shown}
use Rattle.board.proofs.BelowLaws.{all_at, all_from, same_tests}
use Rattle.std.specs.List.{list_all, count_by}
use Rattle.rules.specs.declared.breach.Breach.{Breach}
use Rattle.rules.specs.Parts.{Parts}
use Rattle.rules.specs.Lawful.{is_board, count, laws, first_broken, all_hold, broken, lawful}

-- a board's codes can be shown
pub board_shown : (codes : List ℕ) → is_board codes ≡ true → Shown codes
unfolding is_board
board_shown codes h =
    let p = and_parts (eqb (length codes) 64) (all_below 64 (λ s. leb (get_or codes s 0) 12)) h in
    let l : length codes ≡ 64 = eqb-true _ _ p.0 in (
      l,
      λ s. ⊎_elim
          (λ (k : s < 64). leb-true _ _ (all_at 64 (λ s. leb (get_or codes s 0) 12) p.1 s k))
          (λ (k : 64 ≤ s). let z = get_or_past codes s 0 (omega arith) in omega arith)
          (cases_lt s 64),
    )

pub shown_board : (codes : List ℕ) → Shown codes → is_board codes ≡ true
unfolding is_board
shown_board codes (l, small) = and_from _ _ (eq-eqb _ _ l) (all_from 64 (λ s. leb (get_or codes s 0) 12) (λ s _. le-leb _ _ (small s)))

-- a test of each code
list_all-all_below : (p : ℕ → Bool) (xs : List ℕ) → list_all p xs ≡ all_below (length xs) (λ k. p (get_or xs k 0))
list_all-all_below p xs = same_tests _ _
    (λ h. all_from (length xs) _ (λ k l. at xs h k l))
    (λ h. from xs (λ k l. all_at (length xs) _ h k l))
  where
    at : (ys : List ℕ) → list_all p ys ≡ true → (k : ℕ) → k < length ys → p (get_or ys k 0) ≡ true
    at [] h k l = absurd (omega arith)
    at (y ∷ ys) h zero l = (and_parts _ _ h).0
    at (y ∷ ys) h (suc k) l = at ys (and_parts (p y) _ h).1 k (omega arith)

    from : (ys : List ℕ) → ((k : ℕ) → k < length ys → p (get_or ys k 0) ≡ true) → list_all p ys ≡ true
    from [] f = refl
    from (y ∷ ys) f = and_from _ _ (f 0 (omega arith)) (from ys (λ k l. f (suc k) (omega arith)))

pub is_board-list_all : (codes : List ℕ) → length codes ≡ 64 → list_all (λ c. leb c 12) codes ≡ is_board codes
unfolding is_board
is_board-list_all codes l = list_all-all_below (λ c. leb c 12) codes ∙ rw l refl

-- our count is std's
pub count_by-count : (c : ℕ) (xs : List ℕ) → count_by (λ x. eqb x c) xs ≡ count c xs
unfolding count
count_by-count c [] = refl
count_by-count c (x ∷ xs) = sum_by-cons _ x xs ∙ ap (λ (k : ℕ). cond (eqb x c) 1 0 + k) (count_by-count c xs)

-- no law is broken exactly where all hold
all_or_first : (ls : List (Bool × Breach)) → first_broken ls ≡ None → all_hold ls ≡ true
all_or_first [] e = refl
all_or_first ((true, b) ∷ ls) e = all_or_first ls e
all_or_first ((false, b) ∷ ls) e = let z : ◌≡◌ {A = ℕ} 0 1 = cc in absurd (omega arith)

pub lawful_from : (p : Parts) → broken p ≡ None → lawful p ≡ true
unfolding broken lawful
lawful_from p e = all_or_first (laws p) e

first_or_all : (ls : List (Bool × Breach)) → all_hold ls ≡ true → first_broken ls ≡ None
first_or_all [] e = refl
first_or_all ((true, b) ∷ ls) e = first_or_all ls e
first_or_all ((false, b) ∷ ls) e = absurd (both_ways false refl e)

pub lawful_unbroken : (p : Parts) → lawful p ≡ true → broken p ≡ None
unfolding broken lawful
lawful_unbroken p e = first_or_all (laws p) e

pub lawful_board : (p : Parts) → lawful p ≡ true → is_board p.codes ≡ true
unfolding lawful
lawful_board p e = (and_parts (is_board p.codes) _ e).0
