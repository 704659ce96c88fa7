-- The codes that twelve words stand for, and what a write does to them.
use Rattle.std.specs.Prelude.{◌≡◌, ℕ, zero, suc, ◌+◌, ◌<◌, ◌≤◌, Bool, true, false, not, ◌&&◌, ◌||◌, ◌⊎◌, List, length, replicate, Some, None, Option, ◌==◌, ◌≢◌, bit_or, nat_eq, nat_le, slice_index, slice_set, fold, [], ◌∷◌}
use Rattle.std.specs.List.{list_any, AllWithin, HoldsAt}
use Rattle.std.specs.Option.{MatchOption}
use Rattle.std.proofs.Math.Bool.{or-false, or_assoc}
use Rattle.std.proofs.lemmas.List.Folds.{list_any_at, list_any_none}
use Rattle.std.proofs.lemmas.List.Elements.{All-from_get_or}
use Rattle.std.proofs.Math.Path.{refl, ap}
use Rattle.std.proofs.Common.{sym, subst, ◌∙◌, ⊎_elim, arith}
use Rattle.std.proofs.Math.Logic.{inl, inr}
use Rattle.std.proofs.lemmas.List.FromFn.{get_or-map-range_with_len, length-map-range_with_len}
use Rattle.std.proofs.lemmas.List.{ext_get_or, length-set, get_or-set_same, get_or-set_other, get_or-replicate, get_or_past}
use Rattle.std.proofs.lemmas.Bool.{cases_lt, cases_eq, cases_order, eq-eqb, ne_eqb, eqb-true, both_ways, false≢true, or_left, or_right}
use Rattle.board.specs.Below.{least_below}
use Rattle.board.specs.Meaning.{empty_board, next_holding}
use Rattle.board.proofs.BelowLaws.{least_found, least_none, least_some, least_passed, least_same, same_tests}
use Rattle.rays.specs.Sets.{has, SetOf}
use Rattle.rays.proofs.SetLaws.{has_zero, has_or}
use Rattle.bitboard.specs.Codes.{in_word, code_of, code_at, codes_of, Apart, Lifted, Placed}

module _ (words : List ℕ) (s : ℕ) where
  pub code_first : (i : ℕ) → ((k : ℕ) → k < i → in_word words k s ≡ false) → in_word words i s ≡ true → i < 12 → code_at words s ≡ suc i
  unfolding code_at
  code_first i f t h = ap code_of (least_found 12 i (λ k. in_word words k s) f t h)

  pub code_none : ((i : ℕ) → i < 12 → in_word words i s ≡ false) → code_at words s ≡ 0
  unfolding code_at
  code_none f = ap code_of (least_none 12 (λ k. in_word words k s) f)

  -- the answer of a search for the word that has the square
  pub code_found : (r : Option ℕ) (x : ℕ) (P : ℕ → Type 0) → length words ≡ 12
      → MatchOption r (AllWithin (λ w. has w s ≡ false) words 0 (length words))
      (λ i. (i < length words) × HoldsAt (λ w. has w s ≡ true) words i × AllWithin (λ w. has w s ≡ false) words 0 i)
      → MatchOption r (x ≡ 0) P → ((i : ℕ) → P i → x ≡ suc i) → x ≡ code_at words s
  code_found None x P l none e f = e ∙ sym (code_none (λ i h. none i 0 (omega arith) (omega arith)))
  code_found (Some i) x P l first e f = f i e ∙ sym (code_first i (λ k h. first.2 k 0 (omega arith) h) (first.1 0) (omega arith))

  abbrev NoWord : Type 0
  NoWord = (code_at words s ≡ 0) × ((i : ℕ) → i < 12 → in_word words i s ≡ false)

  abbrev AWord : Type 0
  AWord = (i : ℕ) × (i < 12) × (code_at words s ≡ suc i) × (in_word words i s ≡ true)

  -- the square is in no word, or in the word of its code
  code_cases : NoWord ⊎ AWord
  unfolding code_at
  code_cases = go (least_below 12 (λ i. in_word words i s)) refl
    where
      go : (o : Option ℕ) → least_below 12 (λ i. in_word words i s) ≡ o → NoWord ⊎ AWord
      go None e = inl (ap code_of e, least_passed 12 (λ i. in_word words i s) e)
      go (Some i) e = let r = least_some 12 i (λ k. in_word words k s) e in inr (i, r.0, ap code_of e, r.1)

  pub code_le : code_at words s ≤ 12
  code_le = ⊎_elim (λ (n : NoWord). let z = n.0 in omega arith) (λ (w : AWord). let l = w.1 in let e = w.2 in omega arith) code_cases

  -- a code that tells each word is the square's
  code_is : (c : ℕ) → c ≤ 12 → ((i : ℕ) → i < 12 → in_word words i s ≡ (c == suc i)) → code_at words s ≡ c
  code_is zero h f = code_none (λ i l. f i l ∙ ne_eqb zero (suc i) (λ e. omega arith))
  code_is (suc c) h f =
      code_first c (λ k l. f k (omega arith) ∙ ne_eqb (suc c) (suc k) (λ e. omega arith)) (f c (omega arith) ∙ eq-eqb (suc c) (suc c) refl) (omega arith)

only_word : (words : List ℕ) → Apart words → (i j s : ℕ) → i < 12 → j < 12 → s < 64 → in_word words i s ≡ true → in_word words j s ≡ true → i ≡ j
only_word words apart i j s hi hj hs p q =
    ⊎_elim (λ e. e) (λ o. absurd (⊎_elim (λ l. apart i j s (l, hj, hs, p, q)) (λ l. apart j i s (l, hi, hs, q, p)) o)) (cases_order i j)

-- of words that are apart, each has the squares of its code
pub word_is : (words : List ℕ) → Apart words → (i s : ℕ) → i < 12 → s < 64 → in_word words i s ≡ (code_at words s == suc i)
word_is words apart i s hi hs =
    ⊎_elim
    (λ (n : NoWord words s). n.1 i hi ∙ sym (ne_eqb _ _ (λ e. let z = n.0 in omega arith)))
    (λ (w : AWord words s).
    let e = w.2 in
    same_tests _ _
    (λ h. let same = only_word words apart w.0 i s w.1 hi hs w.3 h in eq-eqb _ _ (omega arith))
    (λ h. let same : w.0 ≡ i = let q = eqb-true _ _ h in omega arith in subst (λ k. in_word words k s ≡ true) same w.3))
    (code_cases words s)

pub length_codes : (words : List ℕ) → length (codes_of words) ≡ 64
unfolding codes_of
length_codes words = length-map-range_with_len (code_at words) 0 64

pub codes_at : (words : List ℕ) (s : ℕ) → s < 64 → slice_index (codes_of words) s ≡ code_at words s
unfolding codes_of
codes_at words s h = get_or-map-range_with_len (code_at words) 0 64 s s 0 h (omega arith)

pub codes_small : (words : List ℕ) (s : ℕ) → slice_index (codes_of words) s ≤ 12
codes_small words s =
    ⊎_elim (λ (h : s < 64). rw (codes_at words s h) (code_le words s))
    (λ (h : 64 ≤ s). let l = length_codes words in let p = get_or_past (codes_of words) s 0 (omega arith) in omega arith) (cases_lt s 64)

-- the empty board
no_member : (i s : ℕ) → i < 12 → in_word (replicate 12 0) i s ≡ false
no_member i s h = ap (λ w. has w s) (get_or-replicate {A = ℕ} 12 i 0 0 h) ∙ has_zero s

pub empty_apart : Apart (replicate 12 0)
empty_apart i j s (l, hj, hs, p, q) = both_ways _ (no_member j s hj) q

pub empty_codes : codes_of (replicate 12 0) ≡ empty_board
unfolding empty_board
empty_codes =
    let l = length_codes (replicate 12 0) in
    ext_get_or 0 (codes_of (replicate 12 0)) (replicate 64 0) l
    (λ s h. let k : s < 64 = omega arith in
    codes_at (replicate 12 0) s k ∙ code_none (replicate 12 0) s (λ i hi. no_member i s hi) ∙ sym (get_or-replicate {A = ℕ} 64 s 0 0 k))

-- a write: the old code lifted, and then the new one placed
put_here : (b x y h : Bool) → b ≡ true → h ≡ y → ((b && x) || (not (b && y) && h)) ≡ x
put_here true true y h e q = refl
put_here true false true true e q = refl
put_here true false true false e q = refl
put_here true false false true e q = q
put_here true false false false e q = refl
put_here false x y h e q = absurd (false≢true e)

put_there : (b x y h : Bool) → b ≡ false → ((b && x) || (not (b && y) && h)) ≡ h
put_there true x y h e = absurd (false≢true (sym e))
put_there false x y h e = refl

module _ (words mid after : List ℕ) (square old c : ℕ) (hs : square < 64) (hc : c ≤ 12) (apart : Apart words) (is-old : old ≡ code_at words square)
    (lifted : Lifted old square words mid) (placed : Placed c square mid after) where
  both : (i s : ℕ) → i < 12 → s < 64 → in_word after i s ≡ ((s == square && c == suc i) || (not (s == square && old == suc i) && in_word words i s))
  both i s hi h = placed i hi s h ∙ ap (λ b. (s == square && c == suc i) || b) (lifted i hi s h)

  here : (i : ℕ) → i < 12 → in_word after i square ≡ (c == suc i)
  here i hi =
      both i square hi hs
      ∙ put_here (square == square) _ _ _ (eq-eqb _ _ refl) (word_is words apart i square hi hs ∙ ap (λ x. nat_eq x (suc i)) (sym is-old))

  there : (i s : ℕ) → i < 12 → s < 64 → (s ≢ square) → in_word after i s ≡ (code_at words s == suc i)
  there i s hi h d = both i s hi h ∙ put_there (s == square) _ _ _ (ne_eqb _ _ d) ∙ word_is words apart i s hi h

  two_places : (c i j : ℕ) → i < j → (c == suc i) ≡ true → (c == suc j) ≢ true
  two_places c i j l p q = let e = eqb-true _ _ p in let f = eqb-true _ _ q in omega arith

  pub write_apart : Apart after
  write_apart i j s (l, hj, h, p, q) =
      let hi : i < 12 = omega arith in
      ⊎_elim
      (λ (e : s ≡ square). two_places c i j l (sym (here i hi) ∙ (rw e at p)) (sym (here j hj) ∙ (rw e at q)))
      (λ (d : s ≡ square → ⊥). two_places (code_at words s) i j l (sym (there i s hi h d) ∙ p) (sym (there j s hj h d) ∙ q))
      (cases_eq s square)

  pub write_codes : codes_of after ≡ slice_set (codes_of words) square c
  write_codes =
      let l = length_codes after in
      let k = length_codes words in
      ext_get_or 0 _ _ (l ∙ sym (length-set (codes_of words) square c ∙ k))
      (λ s h. let hs' : s < 64 = omega arith in
      codes_at after s hs'
      ∙ ⊎_elim
      (λ (e : s ≡ square). rw e (code_is after square c hc here ∙ sym (get_or-set_same (codes_of words) square c 0 (omega arith))))
      (λ (d : s ≡ square → ⊥). code_is after s (code_at words s) (code_le words s) (λ i hi. there i s hi hs' d)
      ∙ sym (get_or-set_other (codes_of words) square s c 0 d ∙ codes_at words s hs'))
      (cases_eq s square))

-- the union of the first words
abbrev pub Covers : List ℕ → ℕ → ℕ → Type 0
Covers words n all =
    (s : ℕ) → ((k : ℕ) → k < n → in_word words k s ≡ true → has all s ≡ true) × (((k : ℕ) → k < n → in_word words k s ≡ false) → has all s ≡ false)

pub covers_none : (words : List ℕ) → Covers words 0 0
covers_none words s = (λ k l. absurd (omega arith), λ _. has_zero s)

pub covers_more : (words : List ℕ) (n all : ℕ) → Covers words n all → Covers words (n + 1) (bit_or all (slice_index words n))
covers_more words n all c s =
    let e = has_or all (slice_index words n) s in (
      λ k l h. e ∙ ⊎_elim
          (λ (q : k ≡ n). or_right (has all s) _ (rw q at h))
          (λ (d : k ≡ n → ⊥). or_left _ (in_word words n s) ((c s).0 k (omega arith) h)) (cases_eq k n),
      λ f. e ∙ ap (λ b. b || in_word words n s) ((c s).1 (λ k l. f k (omega arith))) ∙ f n (omega arith),
    )

has_fold : (ws : List ℕ) (a s : ℕ) → has (fold bit_or a ws) s ≡ (has a s || list_any (λ w. has w s) ws)
has_fold [] a s = sym (or-false (has a s))
has_fold (w ∷ ws) a s = has_fold ws (bit_or a w) s ∙ ap (λ b. b || list_any (λ w. has w s) ws) (has_or a w s) ∙ or_assoc (has a s) (has w s) _

pub covers_fold : (words : List ℕ) → length words ≡ 12 → Covers words 12 (fold bit_or 0 words)
covers_fold words l s =
    let e : has (fold bit_or 0 words) s ≡ list_any (λ w. has w s) words = has_fold words 0 s ∙ ap (λ b. b || list_any (λ w. has w s) words) (has_zero s) in (
      λ k h t. e ∙ list_any_at (λ w. has w s) words k 0 (omega arith) t,
      λ f. e ∙ list_any_none (λ w. has w s) words (All-from_get_or (λ w. has w s ≡ false) words 0 (λ k h. f k (omega arith))),
    )

pub covers_all : (words : List ℕ) (all : ℕ) → Covers words 12 all → SetOf (λ s. not (slice_index (codes_of words) s == 0)) all
covers_all words all c s h =
    rw (codes_at words s h)
    (⊎_elim
    (λ (n : NoWord words s). (c s).1 n.1 ∙ sym (ap not (eq-eqb _ _ n.0)))
    (λ (w : AWord words s).
    (c s).0 w.0 w.1 w.3 ∙ sym (ap not (ne_eqb _ _ (λ e. let q = w.2 in omega arith))))
    (code_cases words s))

-- the squares of a code
pub codes_in : (words : List ℕ) → Apart words → (c s : ℕ) → c < 12 → s < 64 → in_word words c s ≡ (slice_index (codes_of words) s == suc c)
codes_in words apart c s hc hs = word_is words apart c s hc hs ∙ ap (λ x. nat_eq x (suc c)) (sym (codes_at words s hs))

-- the next square of a code
pub next_is : (codes : List ℕ) (from c of_code up : ℕ) → SetOf (λ s. nat_eq (slice_index codes s) c) of_code → SetOf (λ s. nat_le from s && has of_code s) up
    → least_below 64 (has up) ≡ next_holding codes from c
unfolding next_holding
next_is codes from c of_code up f g = least_same 64 _ _ (λ s h. g s h ∙ ap (λ b. nat_le from s && b) (f s h))
