-- What the next square that holds a code tells.
use Rattle.std.proofs.Common.{◌≡◌, ℕ, ◌<◌, ◌≤◌, false, ◌&&◌, eqb, leb, List, get_or, Some, None}
use Rattle.std.proofs.lemmas.Bool.{both_ways, and_from, and_parts, le-leb, leb-true, eq-eqb, eqb-true}
use Rattle.board.specs.Meaning.{next_holding}
use Rattle.board.proofs.BelowLaws.{least_some, least_passed}

module _ (codes : List ℕ) (from c : ℕ) where
  passed : (k : ℕ) → (leb from k && eqb (get_or codes k 0) c) ≡ false → from ≤ k → get_or codes k 0 ≡ c → ⊥
  passed k f h e = both_ways _ f (and_from (leb from k) (eqb (get_or codes k 0) c) (le-leb from k h) (eq-eqb _ _ e))

  pub next_some : (s : ℕ) → next_holding codes from c ≡ Some s
      → (from ≤ s) × (s < 64) × (get_or codes s 0 ≡ c) × ((k : ℕ) → from ≤ k → k < s → get_or codes k 0 ≡ c → ⊥)
  unfolding next_holding
  next_some s e =
      let r = least_some 64 s _ e in
      let p = and_parts (leb from s) (eqb (get_or codes s 0) c) r.1 in
      (leb-true _ _ p.0, r.0, eqb-true _ _ p.1, λ k h l. passed k (r.2 k l) h)

  pub next_none : next_holding codes from c ≡ None → (k : ℕ) → from ≤ k → k < 64 → get_or codes k 0 ≡ c → ⊥
  unfolding next_holding
  next_none e k h l = passed k (least_passed 64 _ e k l) h
