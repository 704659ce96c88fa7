-- The first word of a text, and what stands behind it.
use Rattle.std.proofs.Common.{◌≡◌, ℕ, suc, ◌+◌, ◌<◌, ◌≤◌, Bool, true, false, cond, not, ltb, List, [], ◌∷◌, ◌++◌, length, take, drop, Some, None, Option, refl, sym, ap, subst, ◌∙◌, append_assoc, one-add, length-take, length-drop, arith}
use Rattle.std.specs.List.{position_or_len}
use Rattle.std.specs.Option.{unwrap_or}
use Rattle.std.proofs.lemmas.List.{append-nil}
use Rattle.std.proofs.lemmas.List.Sums.{prefix_len-le-length}
use Rattle.game.specs.Words.{is_blank, word_end, words_behind, words}

-- where `position` finds none, the length
pub place_or_len : (p : ℕ → Bool) (t : List ℕ) (o : Option ℕ) → o ≡ cond (ltb (position_or_len p t) (length t)) (Some (position_or_len p t)) None → unwrap_or o (length t) ≡ position_or_len p t
place_or_len p t o e = let l = prefix_len-le-length (λ b. not (p b)) t in grind arith

abbrev pub blanks : List ℕ → ℕ
blanks t = position_or_len (λ b. not (is_blank b)) t

abbrev pub run : List ℕ → ℕ
run t = position_or_len is_blank t

-- a blank in front
module _ (b : ℕ) (t : List ℕ) (e : is_blank b ≡ true) where
  behind_end : (w : List ℕ) → words_behind w (b ∷ t) ≡ word_end w (words t)
  unfolding words
  behind_end w = rw (e, words_behind) refl

  blanks_end : blanks (b ∷ t) ≡ suc (blanks t)
  blanks_end = rw (e, one-add) refl

  run_end : run (b ∷ t) ≡ 0
  run_end = rw e refl

-- a byte of a word in front
module _ (b : ℕ) (t : List ℕ) (e : is_blank b ≡ false) where
  behind_byte : (w : List ℕ) → words_behind w (b ∷ t) ≡ words_behind (w ++ (b ∷ [])) t
  behind_byte w = rw (e, words_behind) refl

  blanks_byte : blanks (b ∷ t) ≡ 0
  blanks_byte = rw e refl

  run_byte : run (b ∷ t) ≡ suc (run t)
  run_byte = rw (e, one-add) refl

-- blanks in front say nothing
pub words_skip : (t : List ℕ) → words t ≡ words (drop (blanks t) t)
unfolding words
words_skip [] = refl
words_skip (b ∷ t) = by (is_blank b) refl (words_skip t)
  where
    by : (k : Bool) → is_blank b ≡ k → words t ≡ words (drop (blanks t) t) → words (b ∷ t) ≡ words (drop (blanks (b ∷ t)) (b ∷ t))
    by true e r = behind_end b t e [] ∙ r ∙ ap (λ n. words (drop n (b ∷ t))) (sym (blanks_end b t e))
    by false e r = ap (λ n. words (drop n (b ∷ t))) (sym (blanks_byte b t e))

-- a word goes on up to a blank
run_ends : (w t : List ℕ) → words_behind w t ≡ word_end (w ++ take (run t) t) (words (drop (run t) t))
unfolding words
run_ends w [] = ap (λ v. word_end v []) (sym (append-nil w))
run_ends w (b ∷ t) = by (is_blank b) refl (run_ends (w ++ (b ∷ [])) t)
  where
    Ends : ℕ → Type 0
    Ends n = words_behind w (b ∷ t) ≡ word_end (w ++ take n (b ∷ t)) (words (drop n (b ∷ t)))

    by : (k : Bool) → is_blank b ≡ k → words_behind (w ++ (b ∷ [])) t ≡ word_end ((w ++ (b ∷ [])) ++ take (run t) t) (words (drop (run t) t)) → Ends (run (b ∷ t))
    by true e r =
        subst Ends (sym (run_end b t e)) (behind_end b t e w ∙ ap (λ v. word_end v (words t)) (sym (append-nil w)) ∙ ap (word_end (w ++ [])) (sym (behind_end b t e [])))
    by false e r =
        subst Ends (sym (run_byte b t e)) (behind_byte b t e w ∙ r ∙ ap (λ v. word_end v (words (drop (run t) t))) (append_assoc w (b ∷ []) (take (run t) t)))

-- a text without a blank in front begins with a word
pub words_first : (t : List ℕ) → 0 < length t → blanks t ≡ 0 → words t ≡ take (run t) t ∷ words (drop (run t) t)
unfolding words
words_first [] h e = absurd (omega arith)
words_first (b ∷ t) h e = by (is_blank b) refl
  where
    by : (k : Bool) → is_blank b ≡ k → words (b ∷ t) ≡ take (run (b ∷ t)) (b ∷ t) ∷ words (drop (run (b ∷ t)) (b ∷ t))
    by true k = absurd (let z = blanks_end b t k in omega arith)
    by false k =
        run_ends [] (b ∷ t) ∙ (let n = run_byte b t k in subst (λ m. word_end (take m (b ∷ t)) (words (drop m (b ∷ t))) ≡ take m (b ∷ t) ∷ words (drop m (b ∷ t))) (sym n) refl)

-- no blank is left in front
skipped : (t : List ℕ) → blanks (drop (blanks t) t) ≡ 0
skipped [] = refl
skipped (b ∷ t) = by (is_blank b) refl (skipped t)
  where
    by : (k : Bool) → is_blank b ≡ k → blanks (drop (blanks t) t) ≡ 0 → blanks (drop (blanks (b ∷ t)) (b ∷ t)) ≡ 0
    by true e r = subst (λ n. blanks (drop n (b ∷ t)) ≡ 0) (sym (blanks_end b t e)) r
    by false e r = subst (λ n. blanks (drop n (b ∷ t)) ≡ 0) (sym (blanks_byte b t e)) (blanks_byte b t e)

run_some : (t : List ℕ) → 0 < length t → blanks t ≡ 0 → 0 < run t
run_some [] h e = absurd (omega arith)
run_some (b ∷ t) h e = by (is_blank b) refl
  where
    by : (k : Bool) → is_blank b ≡ k → 0 < run (b ∷ t)
    by true k = absurd (let z = blanks_end b t k in omega arith)
    by false k = omega (arith, run_byte b t k)

pub none_left : (t u : List ℕ) → u ≡ drop (blanks t) t → length u ≡ 0 → words t ≡ []
unfolding words
none_left t [] e h = words_skip t ∙ ap words (sym e)
none_left t (b ∷ u) e h = absurd (omega arith)

pub word_found : (t u : List ℕ) (n : ℕ) → u ≡ drop (blanks t) t → 0 < length u → n ≡ run u
    → (words t ≡ take n u ∷ words (drop n u)) × (0 < length (take n u)) × (length (take n u) + length (drop n u) ≤ length t)
word_found t u n e h r =
    let b = prefix_len-le-length (λ (b : ℕ). not (is_blank b)) u in
    let k' = length-take n u in
    let z : blanks u ≡ 0 = ap blanks e ∙ skipped t in
    let s = run_some u h z in
    let l = length-drop n u in
    let k = length-drop (blanks t) t in
    let m : length u ≡ length (drop (blanks t) t) = ap length e in
    (words_skip t ∙ ap words (sym e) ∙ subst (λ m. words u ≡ take m u ∷ words (drop m u)) (sym r) (words_first u h z), omega arith, omega arith)
