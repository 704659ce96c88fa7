-- The members of the words that the operations on sets give.
use Rattle.std.proofs.Common.{◌+◌, pow-suc, pow_pos, ◌≡◌, ℕ, zero, suc, ◌-◌, ◌*◌, ◌/◌, ◌%◌, ◌^◌, ◌<◌, ◌≤◌, min, max, Bool, true, false, cond, not, ◌&&◌, ◌||◌, eqb, leb, ◌⊎◌, Some, None, Option, sym, refl, ap, ◌∙◌, inl, inr, ⊎_elim, arith}
use Rattle.std.specs.Option.{SomeIff, IfSome, is_some, unwrap_or}
use lib.Bits.{bit_and, bit_or, and_le_l}
use lib.Count.{count_trailing_zeros, count_leading_zeros, leading_top}
use Rattle.std.proofs.Math.Bool.{and_comm, or_comm}
use Rattle.std.specs.Int.{bit_at}
use mir.Syntax.{w64}
use Rattle.std.proofs.Math.Nat.{mod-lt}
use Rattle.std.proofs.lemmas.Nat.Bits.{bit_at-lt, bit_at-zero, bit_at_above, bit_at_and, bit_at_or, bit_at_not, bit_at-pow_same, bit_at-pow_other, bit_at_cat_low, bit_at_cat_high, bit_at-trailing_zeros}
use native.Mathlib.Nat.{div-eq_of_lt-le}
use Rattle.std.proofs.lemmas.Nat.{one_shl, and_mask, shr_split}
use Rattle.std.proofs.lemmas.Bool.{both_ways, cases_eq, cases_lt, eq-eqb, ne_eqb, eqb-true, eqb-false, and_left, le-leb, lt-leb, not-true, not-false}
use Rattle.board.specs.Below.{some_below, least_below}
use Rattle.board.proofs.BelowLaws.{some_from, some_at, least_found, least_none, same_tests}
use Rattle.rays.specs.Sets.{bit, has, SetOf, greatest_below}

has_in : (w n : ℕ) → bit_at w n ≡ 1 → has w n ≡ true
unfolding has bit
has_in w n e = eq-eqb _ _ e

has_out : (w n : ℕ) → bit_at w n ≡ 0 → has w n ≡ false
unfolding has bit
has_out w n e = ne_eqb _ _ (λ h. omega arith)

-- the test of a digit
pub has_digit : (w n : ℕ) → eqb (bit_and (w / 2 ^ n) 1) 1 ≡ has w n
unfolding has bit
has_digit w n = ap (λ x. eqb x 1) (and_mask (w / 2 ^ n) 1)

pub has_zero : (n : ℕ) → has 0 n ≡ false
has_zero n = has_out 0 n (bit_at-zero n)

pub has_past : (w n : ℕ) → w < 2 ^ 64 → 64 ≤ n → has w n ≡ false
has_past w n h l = has_out w n (bit_at_above w 64 n h l)

and_test : (a b : ℕ) → a < 2 → b < 2 → eqb (min a b) 1 ≡ (eqb a 1 && eqb b 1)
and_test zero zero p q = refl
and_test zero (suc zero) p q = refl
and_test zero (suc (suc b)) p q = absurd (omega arith)
and_test (suc zero) zero p q = refl
and_test (suc zero) (suc zero) p q = refl
and_test (suc zero) (suc (suc b)) p q = absurd (omega arith)
and_test (suc (suc a)) b p q = absurd (omega arith)

or_test : (a b : ℕ) → a < 2 → b < 2 → eqb (max a b) 1 ≡ (eqb a 1 || eqb b 1)
or_test zero zero p q = refl
or_test zero (suc zero) p q = refl
or_test zero (suc (suc b)) p q = absurd (omega arith)
or_test (suc zero) zero p q = refl
or_test (suc zero) (suc zero) p q = refl
or_test (suc zero) (suc (suc b)) p q = absurd (omega arith)
or_test (suc (suc a)) b p q = absurd (omega arith)

not_test : (a : ℕ) → a < 2 → eqb (1 - a) 1 ≡ not (eqb a 1)
not_test zero p = refl
not_test (suc zero) p = refl
not_test (suc (suc a)) p = absurd (omega arith)

-- common members, members of either, and what is left
pub has_and : (a b n : ℕ) → has (bit_and a b) n ≡ (has a n && has b n)
unfolding has bit
has_and a b n = ap (λ x. eqb x 1) (bit_at_and a b n) ∙ and_test _ _ (bit_at-lt a n) (bit_at-lt b n)

pub has_or : (a b n : ℕ) → has (bit_or a b) n ≡ (has a n || has b n)
unfolding has bit
has_or a b n = ap (λ x. eqb x 1) (bit_at_or a b n) ∙ or_test _ _ (bit_at-lt a n) (bit_at-lt b n)

pub has_not : (w n : ℕ) → w < 2 ^ 64 → n < 64 → has ((2 ^ 64 - 1) - w) n ≡ not (has w n)
unfolding has bit
has_not w n h l = ap (λ x. eqb x 1) (bit_at_not w64 w n h l) ∙ not_test _ (bit_at-lt w n)

-- one member
has_one : (k n : ℕ) → k < 64 → has ((1 * 2 ^ k) % 2 ^ 64) n ≡ eqb n k
has_one k n h =
    ap (λ w. has w n) (one_shl k 64 h)
    ∙ ⊎_elim (λ (e : n ≡ k). rw e (has_in (2 ^ k) k (bit_at-pow_same k) ∙ sym (eq-eqb k k refl)))
    (λ (d : n ≡ k → ⊥). has_out (2 ^ k) n (bit_at-pow_other k n d) ∙ sym (ne_eqb n k d)) (cases_eq n k)

pub only_is : (k : ℕ) (o : Option ℕ) → SomeIff o (k < 64) ((1 * 2 ^ k) % 2 ^ 64) → SetOf (λ s. eqb s k) (unwrap_or o 0)
only_is k None f s l = has_zero s ∙ sym (ne_eqb s k (λ e. f (omega arith)))
only_is k (Some w) f s l = ap (λ x. has x s) f.1 ∙ has_one k s f.0

-- a set is joined to another; it is taken out of another
pub with_all : (w v : ℕ) (p : ℕ → Bool) → SetOf p v → SetOf (λ s. p s || has w s) (bit_or w v)
with_all w v p f s l = has_or w v s ∙ or_comm (has w s) _ ∙ ap (λ x. x || has w s) (f s l)

pub without_all : (w v : ℕ) (p : ℕ → Bool) → v < 2 ^ 64 → SetOf p v → SetOf (λ s. not (p s) && has w s) (bit_and w ((2 ^ 64 - 1) - v))
without_all w v p small f s l = has_and w _ s ∙ and_comm (has w s) _ ∙ ap (λ x. x && has w s) (has_not v s small l ∙ ap not (f s l))

-- down and up again by k: the digits from k up
below_up : (w k n : ℕ) → n < k → bit_at (w / 2 ^ k * 2 ^ k) n ≡ 0
below_up w k n h = ap (λ x. bit_at x n) (omega arith) ∙ bit_at_cat_low (w / 2 ^ k) k 0 n h ∙ bit_at-zero n

down_up : (w k n : ℕ) → k ≤ n → bit_at (w / 2 ^ k * 2 ^ k) n ≡ bit_at w n
down_up w k n h =
    let up : w / 2 ^ k * 2 ^ k ≡ w / 2 ^ k * 2 ^ k + 0 = omega arith in
    ap (λ x. bit_at x n) up ∙ bit_at_cat_high (w / 2 ^ k) k 0 n (pow_pos k) h
    ∙ sym (bit_at_cat_high (w / 2 ^ k) k (w % 2 ^ k) n (mod-lt w (pow_pos k)) h) ∙ ap (λ x. bit_at x n) (shr_split w k)

-- the members from k up
pub upward_in : (w k : ℕ) → w < 2 ^ 64 → SetOf (λ s. leb k s && has w s) ((w / 2 ^ k * 2 ^ k) % 2 ^ 64)
unfolding has bit
upward_in w k small s l =
    let split = shr_split w k in
    let whole : (w / 2 ^ k * 2 ^ k) % 2 ^ 64 ≡ w / 2 ^ k * 2 ^ k = within (w / 2 ^ k * 2 ^ k) (omega arith) in
    ap (λ x. has x s) whole
    ∙ ⊎_elim (λ (h : s < k). has_out _ s (below_up w k s h) ∙ sym (and_left _ (has w s) (lt-leb k s h)))
    (λ (h : k ≤ s). ap (λ x. eqb x 1) (down_up w k s h) ∙ sym (ap (λ x. x && has w s) (le-leb k s h))) (cases_lt s k)
  where
    within : (x : ℕ) → x < 2 ^ 64 → x % 2 ^ 64 ≡ x
    within x h = omega arith

pub upward_past : (w k : ℕ) → 63 < k → SetOf (λ s. leb k s && has w s) 0
upward_past w k h s l = has_zero s ∙ sym (and_left _ (has w s) (lt-leb k s (omega arith)))

-- the highest member j, of a word that is not empty
at_highest : (k w : ℕ) → 0 < w → w < 2 ^ k
    → (j : ℕ) × (count_leading_zeros k w + suc j ≡ k) × (bit_at w j ≡ 1) × ((m : ℕ) → j < m → bit_at w m ≡ 0)
at_highest k w p h =
    let t = leading_top k w p h in (
      t.0,
      t.1,
      ap (λ x. x % 2) (div-eq_of_lt-le {k = 1} (2 ^ t.0) (omega (arith, t.2)) (omega (arith, t.3, pow-suc 2 t.0))),
      λ m l. bit_at_above w (suc t.0) m t.3 l,
    )

-- two sets meet where their common part is not empty
pub meet_is : (a b : ℕ) → a < 2 ^ 64 → not (eqb (bit_and a b) 0) ≡ some_below 64 (λ s. has a s && has b s)
meet_is a b small = same_tests _ _ there back
  where
    there : not (eqb (bit_and a b) 0) ≡ true → some_below 64 (λ s. has a s && has b s) ≡ true
    there h =
        let ne : bit_and a b ≡ 0 → ⊥ = eqb-false (bit_and a b) 0 (not-true _ h) in
        let le = and_le_l a b in
        let t = at_highest 64 (bit_and a b) (omega arith) (omega arith) in
        some_from 64 (λ s. has a s && has b s) t.0 (omega (arith, t.1)) (sym (has_and a b t.0) ∙ has_in _ _ t.2)

    back : some_below 64 (λ s. has a s && has b s) ≡ true → not (eqb (bit_and a b) 0) ≡ true
    back h =
        let r = some_at 64 (λ s. has a s && has b s) h in
        ap not (ne_eqb (bit_and a b) 0 (λ e. both_ways _ (has_zero r.0) (ap (λ w. has w r.0) (sym e) ∙ has_and a b r.0 ∙ r.2)))

-- the lowest member
pub lowest_is : (w : ℕ) (o : Option ℕ) → w < 2 ^ 64 → is_some o ≡ not (eqb w 0) → IfSome o (λ n. n ≡ count_trailing_zeros 64 w) → o ≡ least_below 64 (has w)
lowest_is w None small v f = rw (eqb-true w 0 (not-false _ (sym v))) (sym (least_none 64 (has 0) (λ k h. has_zero k)))
lowest_is w (Some n) small v f =
    let ne = eqb-false w 0 (not-true _ (sym v)) in
    let t = bit_at-trailing_zeros w64 w (omega arith) small in
    ap Some f ∙ sym (least_found 64 (count_trailing_zeros 64 w) (has w) (λ k l. has_out w k (t.2 k l)) (has_in w _ t.1) t.0)

-- the greatest that passes
greatest_none : (n : ℕ) (p : ℕ → Bool) → ((k : ℕ) → k < n → p k ≡ false) → greatest_below n p ≡ None
unfolding greatest_below
greatest_none zero p f = refl
greatest_none (suc n) p f = rw (f n (omega arith), greatest_none n p (λ k h. f k (omega arith)))

greatest_found : (n m : ℕ) (p : ℕ → Bool) → ((k : ℕ) → m < k → k < n → p k ≡ false) → p m ≡ true → m < n → greatest_below n p ≡ Some m
unfolding greatest_below
greatest_found zero m p f t h = absurd (omega arith)
greatest_found (suc n) m p f t h =
    ⊎_elim (λ (s : m ≡ n). let t' = rw s at t in rw (t', s))
    (λ (d : m ≡ n → ⊥). rw (f n (omega arith) (omega arith), greatest_found n m p (λ k l h. f k l (omega arith)) t (omega arith))) (cases_eq m n)

some_of : (b : Bool) (n m : ℕ) (o : Option ℕ) → cond b (Some n) o ≡ Some m → ((b ≡ true) × (n ≡ m)) ⊎ ((b ≡ false) × (o ≡ Some m))
some_of true n m o e = inl (refl, cc)
some_of false n m o e = inr (refl, e)

none_of : (b : Bool) (n : ℕ) (o : Option ℕ) → cond b (Some n) o ≡ None → (b ≡ false) × (o ≡ None)
none_of true n o e = let z : ◌≡◌ {A = ℕ} 0 1 = cc in absurd (omega arith)
none_of false n o e = (refl, e)

pub greatest_passed : (n : ℕ) (p : ℕ → Bool) → greatest_below n p ≡ None → (k : ℕ) → k < n → p k ≡ false
unfolding greatest_below
greatest_passed zero p e k h = absurd (omega arith)
greatest_passed (suc n) p e k h =
    let q = none_of (p n) n (greatest_below n p) e in
    ⊎_elim (λ (s : k ≡ n). rw s q.0) (λ (d : k ≡ n → ⊥). greatest_passed n p q.1 k (omega arith)) (cases_eq k n)

pub greatest_some : (n m : ℕ) (p : ℕ → Bool) → greatest_below n p ≡ Some m → (m < n) × (p m ≡ true) × ((k : ℕ) → m < k → k < n → p k ≡ false)
unfolding greatest_below
greatest_some zero m p e = let z : ◌≡◌ {A = ℕ} 0 1 = cc in absurd (omega arith)
greatest_some (suc n) m p e =
    ⊎_elim
    (λ (h : (p n ≡ true) × (n ≡ m)). let q = h.1 in (omega arith, rw q at h.0, λ k l j. absurd (omega arith)))
    (λ (h : (p n ≡ false) × (greatest_below n p ≡ Some m)).
    let r = greatest_some n m p h.1 in
    let l = r.0 in (
      omega arith,
      r.1,
      λ k i j. ⊎_elim (λ (s : k ≡ n). rw s h.0) (λ (d : k ≡ n → ⊥). r.2 k i (omega arith)) (cases_eq k n),
    ))
    (some_of (p n) n m (greatest_below n p) e)

-- the highest member
pub highest_is : (w : ℕ) (o : Option ℕ) → w < 2 ^ 64 → is_some o ≡ not (eqb w 0) → IfSome o (λ n. n ≡ 63 - count_leading_zeros 64 w) → o ≡ greatest_below 64 (has w)
highest_is w None small v f = rw (eqb-true w 0 (not-false _ (sym v))) (sym (greatest_none 64 (has 0) (λ k h. has_zero k)))
highest_is w (Some n) small v f =
    let ne = eqb-false w 0 (not-true _ (sym v)) in
    let t = at_highest 64 w (omega arith) small in
    let e : 63 - count_leading_zeros 64 w ≡ t.0 = omega (arith, t.1) in
    ap Some (f ∙ e) ∙ sym (greatest_found 64 t.0 (has w) (λ k l h. has_out w k (t.3 k l)) (has_in w _ t.2) (omega (arith, t.1)))
