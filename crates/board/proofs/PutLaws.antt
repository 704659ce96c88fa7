-- Puts: one that is taken back, and all of a picture.
use Rattle.std.proofs.Common.{◌≡◌, ℕ, zero, suc, ◌<◌, ◌≤◌, true, false, ltb, leb, ◌⊎◌, List, length, get_or, set, sym, ap, ◌∙◌, inl, inr, ⊎_elim, arith}
use Rattle.std.proofs.lemmas.List.{set-set, set-get_or, length-set, get_or-set_same, get_or-set_other, ext_get_or}
use Rattle.std.proofs.lemmas.Bool.{cases_Bool, cases_eq, and_from, and_right, and_left, and_parts, lt-ltb, le-ltb, le-leb, lt-leb, ltb-true, leb-true, cond-true, cond-false}
use Rattle.board.specs.Meaning.{can_put, put_answer, put_list, put_below, Shown}

pub can_from : (s c : ℕ) → s < 64 → c ≤ 12 → can_put s c ≡ true
unfolding can_put
can_from s c h k = and_from _ _ (lt-ltb s 64 h) (le-leb c 12 k)

pub can_parts : (s c : ℕ) → can_put s c ≡ true → (s < 64) × (c ≤ 12)
unfolding can_put
can_parts s c e = let p = and_parts (ltb s 64) (leb c 12) e in (ltb-true _ _ p.0, leb-true _ _ p.1)

pub cannot : (s c : ℕ) → (63 < s) ⊎ (12 < c) → can_put s c ≡ false
unfolding can_put
cannot s c (inl h) = and_left _ (leb c 12) (le-ltb s 64 h)
cannot s c (inr h) = and_right (ltb s 64) _ (lt-leb c 12 h)

-- what a put is, where it is done
pub put_done : (codes : List ℕ) (s c : ℕ) → s < 64 → c ≤ 12 → (put_list codes s c ≡ set codes s c) × (put_answer codes s c ≡ get_or codes s 0)
unfolding put_list put_answer
put_done codes s c h k = let e = can_from s c h k in (cond-true _ _ _ e, cond-true _ _ _ e)

-- what a put is, where it is not done
pub put_refused : (codes : List ℕ) (s c : ℕ) → (63 < s) ⊎ (12 < c) → (put_list codes s c ≡ codes) × (put_answer codes s c ≡ 255)
unfolding put_list put_answer
put_refused codes s c h = let e = cannot s c h in (cond-false _ _ _ e, cond-false _ _ _ e)

refused : (codes : List ℕ) (s c : ℕ) → can_put s c ≡ false → (put_list codes s c ≡ codes) × (put_answer codes s c ≡ 255)
unfolding put_list put_answer
refused codes s c e = (cond-false _ _ _ e, cond-false _ _ _ e)

pub put_back : (codes : List ℕ) (s c : ℕ) → ((k : ℕ) → get_or codes k 0 ≤ 12) → put_list (put_list codes s c) s (put_answer codes s c) ≡ codes
put_back codes s c small =
    ⊎_elim
    (λ (e : can_put s c ≡ true).
    let p = can_parts s c e in
    let d = put_done codes s c p.0 p.1 in
    rw (d.0, d.1) ((put_done (set codes s c) s (get_or codes s 0) p.0 (small s)).0 ∙ set-set codes s c (get_or codes s 0) ∙ set-get_or codes s 0))
    (λ (e : can_put s c ≡ false).
    let d = refused codes s c e in
    rw (d.0, d.1) (put_refused codes s 255 (inr (omega arith))).0)
    (cases_Bool (can_put s c))

-- a put of what stands there already
pub put_same : (codes : List ℕ) (s c : ℕ) → get_or codes s 0 ≡ c → put_list codes s c ≡ codes
put_same codes s c e =
    ⊎_elim
    (λ (h : can_put s c ≡ true). let p = can_parts s c h in (put_done codes s c p.0 p.1).0 ∙ ap (set codes s) (sym e) ∙ set-get_or codes s 0)
    (λ (h : can_put s c ≡ false). (refused codes s c h).0)
    (cases_Bool (can_put s c))

-- a whole picture put
length_put : (codes : List ℕ) (s c : ℕ) → s < 64 → c ≤ 12 → length codes ≡ 64 → length (put_list codes s c) ≡ 64
length_put codes s c h k l = ap length (put_done codes s c h k).0 ∙ length-set codes s c ∙ l

module _ (codes picture : List ℕ) (long : length codes ≡ 64) (shown : Shown picture) where
  length_below : (n : ℕ) → n ≤ 64 → length (put_below n codes picture) ≡ 64
  unfolding put_below
  length_below zero h = long
  length_below (suc n) h = length_put (put_below n codes picture) n (get_or picture n 0) (omega arith) (shown.1 n) (length_below n (omega arith))

  put_below_at : (n s : ℕ) → n ≤ 64 → s < n → get_or (put_below n codes picture) s 0 ≡ get_or picture s 0
  unfolding put_below
  put_below_at zero s h k = absurd (omega arith)
  put_below_at (suc n) s h k =
      let was = put_below n codes picture in
      let l = length_below n (omega arith) in
      ap (λ xs. get_or xs s 0) (put_done was n (get_or picture n 0) (omega arith) (shown.1 n)).0
      ∙ ⊎_elim
      (λ (e : s ≡ n). rw e (get_or-set_same was n (get_or picture n 0) 0 (omega arith)))
      (λ (d : s ≡ n → ⊥). get_or-set_other was n s (get_or picture n 0) 0 d ∙ put_below_at n s (omega arith) (omega arith))
      (cases_eq s n)

  pub put_all : put_below 64 codes picture ≡ picture
  put_all =
      let l = length_below 64 (omega arith) in
      ext_get_or 0 (put_below 64 codes picture) picture (l ∙ sym shown.0) (λ s h. put_below_at 64 s (omega arith) (omega arith))
