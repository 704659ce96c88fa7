-- A table that passes the test of the whole has its rule at each entry.
use Rattle.std.proofs.Common.{◌≡◌, ℕ, zero, suc, ◌+◌, ◌*◌, ◌/◌, ◌%◌, ◌<◌, Bool, true, false, not, ◌&&◌, List, [], ◌∷◌, length, get_or, sym, refl, subst, arith}
use Rattle.std.proofs.lemmas.Bool.{and_parts}
use Rattle.board.specs.Below.{all_below}
use Rattle.board.proofs.BelowLaws.{all_at}
use Rattle.rays.specs.Sets.{has, SetOf}
use Rattle.rays.specs.Lines.{entry_of}

-- two tests have one answer
abbrev agree : Bool → Bool → Bool
agree true b = b
agree false b = not b

agreed : (a b : Bool) → agree a b ≡ true → a ≡ b
agreed true b e = sym e
agreed false true e = e
agreed false false e = refl

-- the test: the word of row k and square t, of 64 to a row, is the set of the squares s with R k t s
abbrev right_word : (ℕ → Bool) → ℕ → Bool
right_word p w = all_below 64 (λ s. agree (has w s) (p s))

abbrev right_from : (ℕ → ℕ → ℕ → Bool) → ℕ → List ℕ → Bool
right_from R k [] = true
right_from R k (w ∷ ws) = right_word (R (k / 64) (k % 64)) w && right_from R (suc k) ws

unfoldable pub right_table : (ℕ → ℕ → ℕ → Bool) → List ℕ → Bool
right_table R table = right_from R 0 table

module _ (R : ℕ → ℕ → ℕ → Bool) where
  word_at : (ws : List ℕ) (i k : ℕ) → right_from R i ws ≡ true → k < length ws → right_word (R ((i + k) / 64) ((i + k) % 64)) (get_or ws k 0) ≡ true
  word_at [] i k h l = absurd (omega arith)
  word_at (w ∷ ws) i zero h l =
      let e : i ≡ i + 0 = omega arith in
      subst (λ m. right_word (R (m / 64) (m % 64)) w ≡ true) e (and_parts (right_word (R (i / 64) (i % 64)) w) (right_from R (suc i) ws) h).0
  word_at (w ∷ ws) i (suc k) h l =
      let e : suc i + k ≡ i + suc k = omega arith in
      subst (λ m. right_word (R (m / 64) (m % 64)) (get_or ws k 0) ≡ true) e
      (word_at ws (suc i) k (and_parts (right_word (R (i / 64) (i % 64)) w) (right_from R (suc i) ws) h).1 (omega arith))

  -- the word at a row and a square, of a table of so many rows
  pub word_is : (table : List ℕ) (word row t : ℕ) → word ≡ entry_of table row t → (rows : ℕ) → length table ≡ 64 * rows
      → right_table R table ≡ true → row < rows → t < 64 → SetOf (R row t) word
  unfolding right_table entry_of
  word_is table word row t e rows long right hr ht s hs =
      let k = 64 * row + t in
      let kr : (0 + k) / 64 ≡ row = omega arith in
      let kt : (0 + k) % 64 ≡ t = omega arith in
      let l : k < length table = omega arith in
      rw e
      (agreed _ _
      (all_at 64 (λ u. agree (has (get_or table k 0) u) (R row t u))
      (subst (λ y. right_word (R row y) (get_or table k 0) ≡ true) kt
      (subst (λ x. right_word (R x ((0 + k) % 64)) (get_or table k 0) ≡ true) kr (word_at table 0 k right l))) s hs))
