-- Laws of the tests over the numbers below a bound.
use Rattle.std.proofs.Common.{◌≡◌, ℕ, zero, suc, ◌<◌, Bool, true, false, cond, ◌⊎◌, Some, None, Decides, Option, sym, refl, subst, inl, inr, ⊎_elim, arith}
use Rattle.std.specs.Option.{option_or}
use Rattle.std.proofs.lemmas.Bool.{cases_eq, both_ways, false≢true}
use Rattle.std.proofs.lemmas.Bool.Decides.{Decides-below_or, Decides-below_and}
use Rattle.board.specs.Below.{some_below, all_below, least_below, ◌and_then◌}

-- two tests that follow from one another are equal
pub same_tests : (a b : Bool) → (a ≡ true → b ≡ true) → (b ≡ true → a ≡ true) → a ≡ b
same_tests true b f g = sym (f refl)
same_tests false true f g = g refl
same_tests false false f g = refl

pub not_passed : (a : Bool) → (a ≡ true → ⊥) → a ≡ false
not_passed true f = absurd (f refl)
not_passed false f = refl

-- a Bool decides that it is true
pub decides_itself : (b : Bool) → Decides b (b ≡ true)
decides_itself b = (λ h. h, λ h. h)

pub decides_some : (n : ℕ) (p : ℕ → Bool) (P : ℕ → Type 0) → ((k : ℕ) → Decides (p k) (P k)) → Decides (some_below n p) ((k : ℕ) × (k < n) × P k)
unfolding some_below
decides_some n p P each = Decides-below_or p P (λ m. some_below m p) each refl (λ _. refl) n

pub decides_all : (n : ℕ) (p : ℕ → Bool) (P : ℕ → Type 0) → ((k : ℕ) → Decides (p k) (P k)) → Decides (all_below n p) ((k : ℕ) → k < n → P k)
unfolding all_below
decides_all n p P each = Decides-below_and p P (λ m. all_below m p) each refl (λ _. refl) n

pub all_at : (n : ℕ) (p : ℕ → Bool) → all_below n p ≡ true → (k : ℕ) → k < n → p k ≡ true
all_at n p = (decides_all n p (λ k. p k ≡ true) (λ k. decides_itself (p k))).0

pub all_from : (n : ℕ) (p : ℕ → Bool) → ((k : ℕ) → k < n → p k ≡ true) → all_below n p ≡ true
all_from n p = (decides_all n p (λ k. p k ≡ true) (λ k. decides_itself (p k))).1

pub some_at : (n : ℕ) (p : ℕ → Bool) → some_below n p ≡ true → (k : ℕ) × (k < n) × (p k ≡ true)
some_at n p = (decides_some n p (λ k. p k ≡ true) (λ k. decides_itself (p k))).0

pub some_from : (n : ℕ) (p : ℕ → Bool) (k : ℕ) → k < n → p k ≡ true → some_below n p ≡ true
some_from n p k h e = (decides_some n p (λ j. p j ≡ true) (λ j. decides_itself (p j))).1 (k, h, e)

pub some_none : (n : ℕ) (p : ℕ → Bool) → ((k : ℕ) → k < n → p k ≡ false) → some_below n p ≡ false
some_none n p f = not_passed (some_below n p) (λ h. let r = some_at n p h in both_ways (p r.0) (f r.0 r.1) r.2)

-- two tests that agree below n
pub some_same : (n : ℕ) (p q : ℕ → Bool) → ((k : ℕ) → k < n → p k ≡ q k) → some_below n p ≡ some_below n q
unfolding some_below
some_same zero p q f = refl
some_same (suc n) p q f = rw (f n (omega arith), some_same n p q (λ k h. f k (omega arith)))

pub all_same : (n : ℕ) (p q : ℕ → Bool) → ((k : ℕ) → k < n → p k ≡ q k) → all_below n p ≡ all_below n q
unfolding all_below
all_same zero p q f = refl
all_same (suc n) p q f = rw (f n (omega arith), all_same n p q (λ k h. f k (omega arith)))

-- a cheap test and then a dear one are both
pub then_parts : (a b : Bool) → a and_then b ≡ true → (a ≡ true) × (b ≡ true)
then_parts true b h = (refl, h)
then_parts false b h = absurd (false≢true h)

pub then_from : (a b : Bool) → a ≡ true → b ≡ true → a and_then b ≡ true
then_from true b h k = k
then_from false b h k = absurd (false≢true h)

-- the least
none_parts : (o : Option ℕ) (b : Bool) (n : ℕ) → option_or o (cond b (Some n) None) ≡ None → (o ≡ None) × (b ≡ false)
none_parts None true n e = let z : ◌≡◌ {A = ℕ} 0 1 = cc in absurd (omega arith)
none_parts None false n e = (refl, refl)
none_parts (Some x) b n e = let z : ◌≡◌ {A = ℕ} 0 1 = cc in absurd (omega arith)

pub least_none : (n : ℕ) (p : ℕ → Bool) → ((k : ℕ) → k < n → p k ≡ false) → least_below n p ≡ None
unfolding least_below
least_none zero p f = refl
least_none (suc n) p f = rw (least_none n p (λ k h. f k (omega arith)), f n (omega arith))

pub least_found : (n m : ℕ) (p : ℕ → Bool) → ((k : ℕ) → k < m → p k ≡ false) → p m ≡ true → m < n → least_below n p ≡ Some m
unfolding least_below
least_found zero m p f t h = absurd (omega arith)
least_found (suc n) m p f t h =
    ⊎_elim (λ (s : m ≡ n). let e = least_none m p f in let e' = rw s at e in let t' = rw s at t in rw (e', t', s))
    (λ (d : m ≡ n → ⊥). rw (least_found n m p f t (omega arith))) (cases_eq m n)

pub least_passed : (n : ℕ) (p : ℕ → Bool) → least_below n p ≡ None → (k : ℕ) → k < n → p k ≡ false
unfolding least_below
least_passed zero p e k h = absurd (omega arith)
least_passed (suc n) p e k h =
    let q = none_parts (least_below n p) (p n) n e in
    ⊎_elim (λ (s : k ≡ n). rw s q.1) (λ (d : k ≡ n → ⊥). least_passed n p q.0 k (omega arith)) (cases_eq k n)

some_parts : (o : Option ℕ) (b : Bool) (n m : ℕ) → option_or o (cond b (Some n) None) ≡ Some m → (o ≡ Some m) ⊎ ((o ≡ None) × (b ≡ true) × (n ≡ m))
some_parts None true n m e = inr (refl, refl, cc)
some_parts None false n m e = let z : ◌≡◌ {A = ℕ} 0 1 = cc in absurd (omega arith)
some_parts (Some x) b n m e = inl e

pub least_some : (n m : ℕ) (p : ℕ → Bool) → least_below n p ≡ Some m → (m < n) × (p m ≡ true) × ((k : ℕ) → k < m → p k ≡ false)
unfolding least_below
least_some zero m p e = let z : ◌≡◌ {A = ℕ} 0 1 = cc in absurd (omega arith)
least_some (suc n) m p e =
    ⊎_elim
    (λ (h : least_below n p ≡ Some m). let r = least_some n m p h in (omega (arith, r.0), r.1, r.2))
    (λ (h : (least_below n p ≡ None) × (p n ≡ true) × (n ≡ m)).
    let q = h.2 in
    (omega arith, subst (λ k. p k ≡ true) q h.1, λ k l. least_passed n p h.0 k (omega arith)))
    (some_parts (least_below n p) (p n) n m e)

pub least_same : (n : ℕ) (p q : ℕ → Bool) → ((k : ℕ) → k < n → p k ≡ q k) → least_below n p ≡ least_below n q
unfolding least_below
least_same zero p q f = refl
least_same (suc n) p q f = rw (f n (omega arith), least_same n p q (λ k h. f k (omega arith)))
