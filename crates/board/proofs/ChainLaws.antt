-- What chains over a range of numbers answer, as tests over the numbers below a bound. Each call of the closure gives the test's answer.
use Rattle.std.proofs.Common.{◌≡◌, ℕ, zero, suc, ◌+◌, ◌<◌, ◌≤◌, Bool, true, false, ◌&&◌, leb, Some, None, Option, List, MatchOption, MatchBool, length, get_or, slice_index_or, sym, refl, ◌∙◌, subst, ⊎_elim, arith}
use Rattle.std.proofs.lemmas.Bool.{and_left, and_right, and_from, lt-leb, le-leb, cases_lt, cases_eq, both_ways}
use Rattle.std.proofs.lemmas.Iterator.{first_from_Range, cases_from_any, cases_from_all, YieldsList-from_range}
use Rattle.std.proofs.lemmas.List.FromFn.{length-range_with_len, get_or-range_with_len}
use Rattle.std.proofs.iter.Yields.{nat_range_steps}
use Rattle.std.specs.Iterator.{FindsItem, ChecksAny, ChecksAll}
use Rattle.std.specs.Array.{IsFromFnResult, IsFromFnResultFrom}
use Rattle.std.specs.Fn.{Called, CalledAt}
use Rattle.std.specs.List.{range_with_len, AllWithin, HoldsAt}
use Rattle.std.specs.declared.ops.Range.{Range}
use denote.Param.Members.{Mut}
use denote.Ref.{Bor}
use Rattle.board.specs.Below.{some_below, all_below, least_below}
use Rattle.board.proofs.BelowLaws.{least_none, least_found, some_from, some_none, all_from, all_at, not_passed}

module _ {F : Type 0} (f : F) (p : ℕ → Bool) where
  -- `find` over a range gives the least number of it that passes
  pub least_from_find : {g : Mut F (Bor ℕ × Unit {0}) Bool} (s u : Range ℕ) (r : Option ℕ) → FindsItem nat_range_steps g s f r u
      → ((x : ℕ) (b : Bool) (q : F) → CalledAt g f x b q → (q ≡ f) × (b ≡ p x)) → r ≡ least_below s.end (λ k. leb s.start k && p k)
  least_from_find s u r found tells =
      by r (first_from_Range s u f r (λ k. p k ≡ true) (λ k. p k ≡ false) found (λ x q k. sym (tells x true q k).1) (λ x q k. let t = tells x false q k in (t.0, sym t.1)))
    where
      below : (m : ℕ) → ((k : ℕ) → s.start ≤ k → k < m → p k ≡ false) → (k : ℕ) → k < m → (leb s.start k && p k) ≡ false
      below m none k h =
          ⊎_elim (λ (z : k < s.start). and_left _ _ (lt-leb s.start k z)) (λ (l : s.start ≤ k). and_right (leb s.start k) _ (none k l h)) (cases_lt k s.start)

      by : (o : Option ℕ)
          → MatchOption o ((k : ℕ) → s.start ≤ k → k < s.end → p k ≡ false)
          (λ i. (s.start ≤ i) × (i < s.end) × (p i ≡ true) × ((k : ℕ) → s.start ≤ k → k < i → p k ≡ false))
          → o ≡ least_below s.end (λ k. leb s.start k && p k)
      by None none = sym (least_none s.end _ (below s.end none))
      by (Some i) first = sym (least_found s.end i _ (below i first.3) (and_from _ _ (le-leb s.start i first.0) first.2) first.1)

  -- `any` and `all` over the numbers below a bound
  pub some_from_any : {g : Mut F (ℕ × Unit {0}) Bool} (n : ℕ) (s u : Range ℕ) (r : Bool) → s ≡ record { start = 0; end = n } → ChecksAny nat_range_steps g s f r u
      → ((x : ℕ) (b : Bool) (q : F) → Called g f (x, tt) b q → (q ≡ f) × (b ≡ p x)) → r ≡ some_below n p
  some_from_any n s u r is checked tells =
      by r (cases_from_any u f r (λ k. p k ≡ true) (λ k. p k ≡ false) checked (YieldsList-from_range 0 n n is (omega arith)) (λ x q k. sym (tells x true q k).1) (λ x q k. let t = tells x false q k in (t.0, sym t.1)))
    where
      all : List ℕ
      all = range_with_len 0 n

      at : (k : ℕ) → k < n → get_or all k 0 ≡ k
      at k h = omega (arith, get_or-range_with_len 0 n k 0 h)

      by : (b : Bool) → MatchBool b ((k : ℕ) × (k < length all) × HoldsAt (λ j. p j ≡ true) all k) (AllWithin (λ j. p j ≡ false) all 0 (length all)) → b ≡ some_below n p
      by true found =
          let h : found.0 < n = omega (arith, found.1, length-range_with_len 0 n) in
          sym (some_from n p found.0 h (subst (λ j. p j ≡ true) (at found.0 h) (found.2 0)))
      by false none =
          sym (some_none n p (λ k h. subst (λ j. p j ≡ false) (at k h) (none k 0 (omega arith) (omega (arith, h, length-range_with_len 0 n)))))

  pub all_from_all : {g : Mut F (ℕ × Unit {0}) Bool} (n : ℕ) (s u : Range ℕ) (r : Bool) → s ≡ record { start = 0; end = n } → ChecksAll nat_range_steps g s f r u
      → ((x : ℕ) (b : Bool) (q : F) → Called g f (x, tt) b q → (q ≡ f) × (b ≡ p x)) → r ≡ all_below n p
  all_from_all n s u r is checked tells =
      by r (cases_from_all u f r (λ k. p k ≡ true) (λ k. p k ≡ false) checked (YieldsList-from_range 0 n n is (omega arith)) (λ x q k. let t = tells x true q k in (t.0, sym t.1)) (λ x q k. sym (tells x false q k).1))
    where
      all : List ℕ
      all = range_with_len 0 n

      at : (k : ℕ) → k < n → get_or all k 0 ≡ k
      at k h = omega (arith, get_or-range_with_len 0 n k 0 h)

      by : (b : Bool) → MatchBool b (AllWithin (λ j. p j ≡ true) all 0 (length all)) ((k : ℕ) × (k < length all) × HoldsAt (λ j. p j ≡ false) all k) → b ≡ all_below n p
      by true every =
          sym (all_from n p (λ k h. subst (λ j. p j ≡ true) (at k h) (every k 0 (omega arith) (omega (arith, h, length-range_with_len 0 n)))))
      by false missed =
          let h : missed.0 < n = omega (arith, missed.1, length-range_with_len 0 n) in
          let e = subst (λ j. p j ≡ false) (at missed.0 h) (missed.2 0) in
          sym (not_passed (all_below n p) (λ t. both_ways (p missed.0) e (all_at n p t missed.0 h)))

-- an array by `from_fn` has the closure's answer at each index
module _ {F B : Type 0} {g : Mut F (ℕ × Unit {0}) B} (f : F) (xs : List B) (d : B) (h : ℕ → B) (size : ℕ) (tells : (x : ℕ) (y : B) (q : F) → x < size → Called g f (x, tt) y q → (q ≡ f) × (y ≡ h x)) where
  each_at : (i n : ℕ) (p : F) → p ≡ f → i + n ≤ size → IsFromFnResultFrom g p xs i n → (k : ℕ) → i ≤ k → k < i + n → slice_index_or xs k d ≡ h k
  each_at i zero p same fits made k low high = absurd (omega arith)
  each_at i (suc n) p same fits made k low high =
      let t = tells i made.1 made.0 (omega arith) (subst (λ p. Called g p (i, tt) made.1 made.0) same made.3) in
      ⊎_elim
      (λ (e : k ≡ i). rw e (made.2.1 d ∙ t.1))
      (λ (n' : k ≡ i → ⊥). each_at (i + 1) n made.0 t.0 (omega arith) made.4 k (omega arith) (omega arith))
      (cases_eq k i)

  pub at_from_fn : IsFromFnResult g f xs size → (k : ℕ) → k < size → slice_index_or xs k d ≡ h k
  at_from_fn made k l = each_at 0 size f refl (omega arith) made.each k (omega arith) (omega arith)
