-- The lowest or the highest occupied square on a ray is the first one on it.
use Rattle.std.proofs.Common.{◌≡◌, ℕ, zero, suc, ◌<◌, ◌≤◌, Bool, true, false, not, ◌&&◌, ◌||◌, ltb, ◌⊎◌, Some, None, Option, sym, refl, ap, ◌∙◌, inl, inr, ⊎_elim, arith}
use Rattle.std.specs.Option.{MatchOption}
use Rattle.std.proofs.lemmas.Bool.Decides.{nat_tests}
use Rattle.std.proofs.lemmas.Bool.{cases_order, cases_lt, and_parts, and_from, and_right, lt-ltb, le-ltb, both_ways, false≢true}
use Rattle.board.specs.Below.{some_below, least_below}
use Rattle.board.specs.Geometry.{direction, beyond}
use Rattle.board.proofs.BelowLaws.{all_at, all_from, some_from, some_at, some_none, least_found, least_none, least_some, least_passed, then_parts, then_from, not_passed, same_tests}
use Rattle.rays.specs.Sets.{has, SetOf, greatest_below}
use Rattle.rays.specs.Lines.{lies, free_between, first_on}
use Rattle.rays.proofs.SetLaws.{greatest_passed, greatest_some}

-- the squares' numbers rise along the first four directions, and fall along the others
rises : (d t s : ℕ) → d < 4 → beyond (direction d) t s ≡ true → t < s
rises zero t s l h = grind (arith, nat_tests)
rises (suc zero) t s l h = grind (arith, nat_tests)
rises (suc (suc zero)) t s l h = grind (arith, nat_tests)
rises (suc (suc (suc zero))) t s l h = grind (arith, nat_tests)
rises (suc (suc (suc (suc d)))) t s l h = omega arith

falls : (d t s : ℕ) → 4 ≤ d → beyond (direction d) t s ≡ true → s < t
falls zero t s l h = omega arith
falls (suc zero) t s l h = omega arith
falls (suc (suc zero)) t s l h = omega arith
falls (suc (suc (suc zero))) t s l h = omega arith
falls (suc (suc (suc (suc zero)))) t s l h = grind (arith, nat_tests)
falls (suc (suc (suc (suc (suc zero))))) t s l h = grind (arith, nat_tests)
falls (suc (suc (suc (suc (suc (suc zero)))))) t s l h = grind (arith, nat_tests)
falls (suc (suc (suc (suc (suc (suc (suc d))))))) t s l h = grind (arith, nat_tests)

-- of two squares beyond t, the further lies beyond the nearer
ordered_up : (d t u s : ℕ) → d < 4 → beyond (direction d) t u ≡ true → beyond (direction d) t s ≡ true → u < s → beyond (direction d) u s ≡ true
ordered_up zero t u s l h k m = grind (arith, nat_tests)
ordered_up (suc zero) t u s l h k m = grind (arith, nat_tests)
ordered_up (suc (suc zero)) t u s l h k m = grind (arith, nat_tests)
ordered_up (suc (suc (suc zero))) t u s l h k m = grind (arith, nat_tests)
ordered_up (suc (suc (suc (suc d)))) t u s l h k m = absurd (omega arith)

ordered_down : (d t u s : ℕ) → 4 ≤ d → beyond (direction d) t u ≡ true → beyond (direction d) t s ≡ true → s < u → beyond (direction d) u s ≡ true
ordered_down zero t u s l h k m = absurd (omega arith)
ordered_down (suc zero) t u s l h k m = absurd (omega arith)
ordered_down (suc (suc zero)) t u s l h k m = absurd (omega arith)
ordered_down (suc (suc (suc zero))) t u s l h k m = absurd (omega arith)
ordered_down (suc (suc (suc (suc zero)))) t u s l h k m = grind (arith, nat_tests)
ordered_down (suc (suc (suc (suc (suc zero))))) t u s l h k m = grind (arith, nat_tests)
ordered_down (suc (suc (suc (suc (suc (suc zero)))))) t u s l h k m = grind (arith, nat_tests)
ordered_down (suc (suc (suc (suc (suc (suc (suc d))))))) t u s l h k m = grind (arith, nat_tests)

pub lies_within : (d t s : ℕ) → d < 8 → t < 64 → lies d t s ≡ beyond (direction d) t s
unfolding lies
lies_within d t s hd ht = ap (λ b. b && beyond (direction d) t s) (and_from _ _ (lt-ltb d 8 hd) (lt-ltb t 64 ht))

pub lies_nowhere : (d t s : ℕ) → (7 < d) ⊎ (63 < t) → lies d t s ≡ false
unfolding lies
lies_nowhere d t s (inl h) = ap (λ b. (b && ltb t 64) && beyond (direction d) t s) (le-ltb d 8 h)
lies_nowhere d t s (inr h) = ap (λ b. b && beyond (direction d) t s) (and_right (ltb d 8) _ (le-ltb t 64 h))

lies_beyond : (d t s : ℕ) → lies d t s ≡ true → beyond (direction d) t s ≡ true
unfolding lies
lies_beyond d t s h = (and_parts (ltb d 8 && ltb t 64) _ h).1

lies_too : (d t s u : ℕ) → lies d t s ≡ true → beyond (direction d) t u ≡ true → lies d t u ≡ true
unfolding lies
lies_too d t s u h b = and_from _ _ (and_parts (ltb d 8 && ltb t 64) _ h).0 b

between_off : (a b c : Bool) → (not (a && b) || not c) ≡ true → a ≡ true → b ≡ true → c ≡ false
between_off true true true h p q = absurd (false≢true h)
between_off true true false h p q = refl
between_off true false c h p q = absurd (false≢true q)
between_off false b c h p q = absurd (false≢true p)

between_on : (a b c : Bool) → (a ≡ true → b ≡ true → c ≡ false) → (not (a && b) || not c) ≡ true
between_on true true c f = ap not (f refl refl)
between_on true false c f = refl
between_on false b c f = refl

module _ (occupied d t : ℕ) where
  first_parts : (s : ℕ) → first_on occupied d t s ≡ true
      → (lies d t s ≡ true) × (has occupied s ≡ true)
      × ((u : ℕ) → u < 64 → beyond (direction d) t u ≡ true → beyond (direction d) u s ≡ true → has occupied u ≡ false)
  unfolding first_on free_between
  first_parts s h =
      let p = then_parts (lies d t s && has occupied s) _ h in
      let q = and_parts (lies d t s) _ p.0 in
      (q.0, q.1, λ u l. between_off _ _ _ (all_at 64 _ p.1 u l))

  first_from : (s : ℕ) → lies d t s ≡ true → has occupied s ≡ true
      → ((u : ℕ) → u < 64 → beyond (direction d) t u ≡ true → beyond (direction d) u s ≡ true → has occupied u ≡ false) → first_on occupied d t s ≡ true
  unfolding first_on free_between
  first_from s l o f = then_from _ _ (and_from _ _ l o) (all_from 64 _ (λ u h. between_on _ _ _ (f u h)))

  -- of two squares, the nearer is first
  nearer : (s u : ℕ) → s < 64 → first_on occupied d t s ≡ true → first_on occupied d t u ≡ true → beyond (direction d) s u ≡ true → ⊥
  nearer s u hs f g b =
      let p = first_parts s f in
      let q = first_parts u g in
      both_ways _ (q.2 s hs (lies_beyond d t s p.0) b) p.1

  only_first : (s u : ℕ) → s < 64 → u < 64 → first_on occupied d t s ≡ true → first_on occupied d t u ≡ true → s ≡ u
  only_first s u hs hu f g =
      let bs = lies_beyond d t s (first_parts s f).0 in
      let bu = lies_beyond d t u (first_parts u g).0 in
      let less : s < u → ⊥ = λ l. ⊎_elim (λ k. nearer s u hs f g (ordered_up d t s u k bs bu l)) (λ k. nearer u s hu g f (ordered_down d t u s k bu bs l)) (cases_lt d 4) in
      let more : u < s → ⊥ = λ l. ⊎_elim (λ k. nearer u s hu g f (ordered_up d t u s k bu bs l)) (λ k. nearer s u hs f g (ordered_down d t s u k bs bu l)) (cases_lt d 4) in
      ⊎_elim (λ e. e) (λ o. absurd (⊎_elim less more o)) (cases_order s u)

  -- hit is the set of the occupied squares on the ray
  module _ (hit : ℕ) (rule : SetOf (λ s. lies d t s && has occupied s) hit) where
    missed : (s : ℕ) → s < 64 → has hit s ≡ false → first_on occupied d t s ≡ false
    missed s l h = not_passed _ (λ f. let p = first_parts s f in both_ways _ h (rule s l ∙ and_from _ _ p.0 p.1))

    -- no member of the hits lies between t and s
    first_of : (s : ℕ) → s < 64 → has hit s ≡ true → ((u : ℕ) → u < 64 → beyond (direction d) u s ≡ true → has hit u ≡ false) → first_on occupied d t s ≡ true
    first_of s l h f =
        let p = and_parts (lies d t s) _ (sym (rule s l) ∙ h) in
        first_from s p.0 p.1 (λ u hu b k. not_passed _ (λ o. both_ways _ (f u hu k) (rule u hu ∙ and_from _ _ (lies_too d t s u p.0 b) o)))

    pub lowest_first : d < 4 → least_below 64 (has hit) ≡ least_below 64 (first_on occupied d t)
    lowest_first hd = go (least_below 64 (has hit)) refl
      where
        go : (o : Option ℕ) → least_below 64 (has hit) ≡ o → o ≡ least_below 64 (first_on occupied d t)
        go None e = sym (least_none 64 _ (λ k l. missed k l (least_passed 64 (has hit) e k l)))
        go (Some m) e =
            let r = least_some 64 m (has hit) e in
            let hm = r.0 in
            sym (least_found 64 m _ (λ k l. missed k (omega arith) (r.2 k l)) (first_of m hm r.1 (λ u _ b. r.2 u (rises d u m hd b))) hm)

    pub highest_first : 4 ≤ d → greatest_below 64 (has hit) ≡ least_below 64 (first_on occupied d t)
    highest_first hd = go (greatest_below 64 (has hit)) refl
      where
        go : (o : Option ℕ) → greatest_below 64 (has hit) ≡ o → o ≡ least_below 64 (first_on occupied d t)
        go None e = sym (least_none 64 _ (λ k l. missed k l (greatest_passed 64 (has hit) e k l)))
        go (Some m) e =
            let r = greatest_some 64 m (has hit) e in
            let hm = r.0 in
            let is = first_of m hm r.1 (λ u hu b. r.2 u (falls d u m hd b) hu) in
            sym (least_found 64 m _ (λ k l. not_passed _ (λ f. let same = only_first m k hm (omega arith) is f in omega arith)) is hm)

  -- whether the first is a member of a set
  among_found : (set s : ℕ) → least_below 64 (first_on occupied d t) ≡ Some s → has set s ≡ some_below 64 (λ u. has set u && first_on occupied d t u)
  among_found set s e =
      let r = least_some 64 s (first_on occupied d t) e in
      same_tests _ _
      (λ h. some_from 64 (λ u. has set u && first_on occupied d t u) s r.0 (and_from _ _ h r.1))
      (λ h. let q = some_at 64 (λ u. has set u && first_on occupied d t u) h in
      let p = and_parts (has set q.0) _ q.2 in
      rw (only_first s q.0 r.0 q.1 r.1 p.1) p.0)

  among_none : (set : ℕ) → least_below 64 (first_on occupied d t) ≡ None → some_below 64 (λ u. has set u && first_on occupied d t u) ≡ false
  among_none set e = some_none 64 _ (λ k l. and_right (has set k) _ (least_passed 64 (first_on occupied d t) e k l))

  -- the answer of a test of the first one, where there is one
  pub among_first : (set : ℕ) (r : Bool) (o : Option ℕ) (P : ℕ → Type 0) → o ≡ least_below 64 (first_on occupied d t) → MatchOption o (r ≡ false) P
      → ((s : ℕ) → P s → r ≡ has set s) → r ≡ some_below 64 (λ u. has set u && first_on occupied d t u)
  among_first set r None P e h f = h ∙ sym (among_none set (sym e))
  among_first set r (Some s) P e h f = f s h ∙ among_found set s (sym e)

  pub among_off : (set ray : ℕ) → SetOf (lies d t) ray → some_below 64 (λ s. has set s && has ray s) ≡ false
      → some_below 64 (λ u. has set u && first_on occupied d t u) ≡ false
  among_off set ray rule off =
      not_passed _ (λ h. let q = some_at 64 (λ u. has set u && first_on occupied d t u) h in
      let s = q.0 in
      let p = and_parts (has set s) _ q.2 in
      both_ways _ off (some_from 64 (λ u. has set u && has ray u) s q.1 (and_from _ _ p.0 (rule s q.1 ∙ (first_parts s p.1).0))))
