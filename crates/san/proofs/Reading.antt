-- A text is read as what it spells.
use Rattle.std.proofs.Common.{◌≡◌, ℕ, zero, suc, ◌+◌, ◌-◌, ◌*◌, ◌<◌, ◌≤◌, Bool, true, false, cond, ◌&&◌, eqb, leb, List, [], ◌∷◌, ◌++◌, reverse, IfSome, Some, None, codes as bytes, Option, sym, refl, ap, ◌∙◌, subst, inl, inr, arith}
use Rattle.std.specs.Option.{option_or}
use Rattle.std.proofs.lemmas.List.{reverse-append, append_assoc}
use Rattle.std.proofs.lemmas.Bool.{ne_eqb, le-leb, lt-leb, and_from, and_right, cond-true, cond-false, or_from}
use Rattle.board.specs.Geometry.{file, rank}
use Rattle.san.specs.Said.{Said, castling, going}
use Rattle.san.specs.Written.{kind_text, file_text, rank_text, capture_text, square_text}
use Rattle.san.specs.Text.{is_file, is_rank, is_capture_mark, is_equals, is_check_mark, letter_kind, without_first, first_says, read_kind, read_origin, read_target, read_promotion, read_castling, read_text, CheckMark, PromotionText, Spells, piece, kingside, queenside}

-- a mark that is given lies on the board
abbrev pub Small : Option ℕ → Type 0
Small o = IfSome o (λ n. n < 8)

-- the six kinds, one by one
pub by_kind : (Q : ℕ → Type 0) → Q 1 → Q 2 → Q 3 → Q 4 → Q 5 → Q 6 → (k : ℕ) → 1 ≤ k → k ≤ 6 → Q k
by_kind Q a b c d e f zero l h = absurd (omega arith)
by_kind Q a b c d e f (suc zero) l h = a
by_kind Q a b c d e f (suc (suc zero)) l h = b
by_kind Q a b c d e f (suc (suc (suc zero))) l h = c
by_kind Q a b c d e f (suc (suc (suc (suc zero)))) l h = d
by_kind Q a b c d e f (suc (suc (suc (suc (suc zero))))) l h = e
by_kind Q a b c d e f (suc (suc (suc (suc (suc (suc zero)))))) l h = f
by_kind Q a b c d e f (suc (suc (suc (suc (suc (suc (suc k))))))) l h = absurd (omega arith)

-- which part a written byte belongs to
file_is : (f : ℕ) → f < 8 → is_file (97 + f) ≡ true
file_is f l = and_from (leb 97 (97 + f)) (leb (97 + f) 104) (le-leb 97 (97 + f) (omega arith)) (le-leb (97 + f) 104 (omega arith))

rank_is : (r : ℕ) → r < 8 → is_rank (49 + r) ≡ true
rank_is r l = and_from (leb 49 (49 + r)) (leb (49 + r) 56) (le-leb 49 (49 + r) (omega arith)) (le-leb (49 + r) 56 (omega arith))

file_no_rank : (f : ℕ) → is_rank (97 + f) ≡ false
file_no_rank f = and_right (leb 49 (97 + f)) _ (lt-leb _ _ (omega arith))

file_no_capture : (f : ℕ) → f < 8 → is_capture_mark (97 + f) ≡ false
file_no_capture f l = ne_eqb _ _ (λ e. omega arith)

rank_no_capture : (r : ℕ) → r < 8 → is_capture_mark (49 + r) ≡ false
rank_no_capture r l = ne_eqb _ _ (λ e. omega arith)

rank_no_equals : (r : ℕ) → r < 8 → is_equals (49 + r) ≡ false
rank_no_equals r l = ne_eqb _ _ (λ e. omega arith)

rank_no_check : (r : ℕ) → is_check_mark (49 + r) ≡ false
rank_no_check r = or_from _ _ (ne_eqb (49 + r) 43 (λ e. omega arith)) (ne_eqb (49 + r) 35 (λ e. omega arith))

rank_no_letter : (r : ℕ) → r < 8 → letter_kind (49 + r) ≡ 0
rank_no_letter r l =
    cond-false _ _ _ (ne_eqb (49 + r) 78 (λ e. omega arith)) ∙ cond-false _ _ _ (ne_eqb (49 + r) 66 (λ e. omega arith))
    ∙ cond-false _ _ _ (ne_eqb (49 + r) 82 (λ e. omega arith)) ∙ cond-false _ _ _ (ne_eqb (49 + r) 81 (λ e. omega arith))
    ∙ cond-false _ _ _ (ne_eqb (49 + r) 75 (λ e. omega arith))

-- how the part up to the file is read
record FileRead (k : ℕ) (f : Option ℕ) (xs : List ℕ) : Type 0 where
  kind_is : read_kind (without_first is_file xs) ≡ k
  says : first_says is_file 97 xs ≡ f
  no_rank : without_first is_rank xs ≡ xs
  says_no_rank : first_says is_rank 49 xs ≡ None
  no_capture : without_first is_capture_mark xs ≡ xs

file_read : (k : ℕ) (f : Option ℕ) → 1 ≤ k → k ≤ 6 → Small f → FileRead k f (file_text f ++ kind_text k)
unfolding kind_text
file_read k None l h s = by_kind (λ k. FileRead k None (kind_text k))
    (record { kind_is = refl; says = refl; no_rank = refl; says_no_rank = refl; no_capture = refl })
    (record { kind_is = refl; says = refl; no_rank = refl; says_no_rank = refl; no_capture = refl })
    (record { kind_is = refl; says = refl; no_rank = refl; says_no_rank = refl; no_capture = refl })
    (record { kind_is = refl; says = refl; no_rank = refl; says_no_rank = refl; no_capture = refl })
    (record { kind_is = refl; says = refl; no_rank = refl; says_no_rank = refl; no_capture = refl })
    (record { kind_is = refl; says = refl; no_rank = refl; says_no_rank = refl; no_capture = refl })
    k l h
file_read k (Some f) l h s =
    let a : without_first is_file ((97 + f) ∷ kind_text k) ≡ kind_text k = cond-true _ _ _ (file_is f s) in
    record {
      kind_is = ap read_kind a ∙ by_kind (λ k. read_kind (kind_text k) ≡ k) refl refl refl refl refl refl k l h;
      says = cond-true _ _ _ (file_is f s) ∙ ap {B = Option ℕ} Some (let z : 97 + f - 97 ≡ f = omega arith in z);
      no_rank = cond-false _ _ _ (file_no_rank f);
      says_no_rank = cond-false _ _ _ (file_no_rank f);
      no_capture = cond-false _ _ _ (file_no_capture f s);
    }

-- the part up to the rank
record RankRead (r : Option ℕ) (ys xs : List ℕ) : Type 0 where
  rest : without_first is_rank xs ≡ ys
  says : first_says is_rank 49 xs ≡ r
  no_capture : without_first is_capture_mark xs ≡ xs

rank_read : (k : ℕ) (f r : Option ℕ) → 1 ≤ k → k ≤ 6 → Small f → Small r
    → RankRead r (file_text f ++ kind_text k) (rank_text r ++ (file_text f ++ kind_text k))
rank_read k f None l h s u = let a = file_read k f l h s in record { rest = a.no_rank; says = a.says_no_rank; no_capture = a.no_capture }
rank_read k f (Some r) l h s u =
    record {
      rest = cond-true _ _ _ (rank_is r u);
      says = cond-true _ _ _ (rank_is r u) ∙ ap {B = Option ℕ} Some (let z : 49 + r - 49 ≡ r = omega arith in z);
      no_capture = cond-false _ _ _ (rank_no_capture r u);
    }

-- what stands before the target, backwards
abbrev pub origin_back : ℕ → Option ℕ → Option ℕ → Bool → List ℕ
origin_back k f r x = capture_text x ++ (rank_text r ++ (file_text f ++ kind_text k))

origin_read : (k : ℕ) (f r : Option ℕ) (x : Bool) (t q : ℕ) → 1 ≤ k → k ≤ 6 → Small f → Small r
    → read_origin q t (origin_back k f r x) ≡ Some (going k f r t q)
unfolding read_origin
origin_read k f r x t q l h s u =
    let a = file_read k f l h s in
    let b = rank_read k f r l h s u in
    let c : without_first is_capture_mark (origin_back k f r x) ≡ rank_text r ++ (file_text f ++ kind_text k) = capture x b.no_capture in
    simp (c, b.rest, b.says, a.kind_is, a.says) (cond-false _ _ _ (ne_eqb k 0 (λ e. omega arith)))
  where
    capture : (x : Bool) {xs : List ℕ} → without_first is_capture_mark xs ≡ xs → without_first is_capture_mark (capture_text x ++ xs) ≡ xs
    capture true e = refl
    capture false e = e

-- the part up to the target, backwards
abbrev pub target_back : ℕ → Option ℕ → Option ℕ → Bool → ℕ → List ℕ
target_back k f r x t = (49 + rank t) ∷ (97 + file t) ∷ origin_back k f r x

target_read : (k : ℕ) (f r : Option ℕ) (x : Bool) (t q : ℕ) → 1 ≤ k → k ≤ 6 → Small f → Small r → t < 64
    → read_target q (target_back k f r x t) ≡ Some (going k f r t q)
unfolding read_target
target_read k f r x t q l h s u i =
    let a : 8 * (49 + rank t - 49) + (97 + file t - 97) ≡ t = omega arith in
    cond-true _ _ _ (and_from _ _ (rank_is (rank t) (omega arith)) (file_is (file t) (omega arith)))
    ∙ ap (λ (t' : ℕ). read_origin q t' (origin_back k f r x)) a ∙ origin_read k f r x t q l h s u

-- a promotion behind a rank
record PromotionRead (q : ℕ) (p ys : List ℕ) : Type 0 where
  is : read_promotion (reverse p ++ ys) ≡ read_target q ys
  no_check : without_first is_check_mark (reverse p ++ ys) ≡ reverse p ++ ys

abbrev Between : (ℕ → Type 0) → ℕ → Type 0
Between Q q = 2 ≤ q → q ≤ 5 → Q q

promotion_read : (r : ℕ) (xs : List ℕ) (q : ℕ) (p : List ℕ) → r < 8 → PromotionText q p → PromotionRead q p ((49 + r) ∷ xs)
unfolding read_promotion kind_text
promotion_read r xs q p h (inl (e, z)) =
    subst (λ (p : List ℕ). PromotionRead q p ((49 + r) ∷ xs)) (sym z) (subst (λ (q : ℕ). PromotionRead q [] ((49 + r) ∷ xs)) (sym e) (record {
      is = cond-false _ _ _ (ap (λ (k : ℕ). leb 2 k && leb k 5) (rank_no_letter r h));
      no_check = cond-false _ _ _ (rank_no_check r);
    }))
promotion_read r xs q p h (inr (l, m, inl z)) =
    let e : without_first is_equals ((49 + r) ∷ xs) ≡ (49 + r) ∷ xs = cond-false _ _ _ (rank_no_equals r h) in
    subst (λ (p : List ℕ). PromotionRead q p ((49 + r) ∷ xs)) (sym z) (by_kind (Between (λ q. PromotionRead q (kind_text q) ((49 + r) ∷ xs)))
    (λ a b. absurd (omega arith))
    (λ a b. record { is = ap (read_target 2) e; no_check = refl })
    (λ a b. record { is = ap (read_target 3) e; no_check = refl })
    (λ a b. record { is = ap (read_target 4) e; no_check = refl })
    (λ a b. record { is = ap (read_target 5) e; no_check = refl })
    (λ a b. absurd (omega arith)) q (omega arith) (omega arith) l m)
promotion_read r xs q p h (inr (l, m, inr z)) =
    subst (λ (p : List ℕ). PromotionRead q p ((49 + r) ∷ xs)) (sym z) (by_kind (Between (λ q. PromotionRead q (61 ∷ kind_text q) ((49 + r) ∷ xs)))
    (λ a b. absurd (omega arith))
    (λ a b. record { is = refl; no_check = refl })
    (λ a b. record { is = refl; no_check = refl })
    (λ a b. record { is = refl; no_check = refl })
    (λ a b. record { is = refl; no_check = refl })
    (λ a b. absurd (omega arith)) q (omega arith) (omega arith) l m)

check_read : (c xs : List ℕ) → CheckMark c → without_first is_check_mark xs ≡ xs → without_first is_check_mark (reverse c ++ xs) ≡ xs
check_read c xs (inl e) h = subst (λ (c : List ℕ). without_first is_check_mark (reverse c ++ xs) ≡ xs) (sym e) h
check_read c xs (inr (inl e)) h = subst (λ (c : List ℕ). without_first is_check_mark (reverse c ++ xs) ≡ xs) (sym e) refl
check_read c xs (inr (inr e)) h = subst (λ (c : List ℕ). without_first is_check_mark (reverse c ++ xs) ≡ xs) (sym e) refl

kind_back : (k : ℕ) → reverse (kind_text k) ≡ kind_text k
unfolding kind_text
kind_back k = either (eqb k 1) _
  where
    either : (b : Bool) (y : ℕ) → reverse (cond b [] (y ∷ [])) ≡ cond b [] (y ∷ [])
    either true y = refl
    either false y = refl

-- a text of a move that is not castling, in order and backwards
abbrev pub spelled : ℕ → Option ℕ → Option ℕ → Bool → ℕ → List ℕ → List ℕ → List ℕ
spelled k f r x t p c = kind_text k ++ (file_text f ++ (rank_text r ++ (capture_text x ++ (square_text t ++ (p ++ c)))))

pub spelled_back : (k : ℕ) (f r : Option ℕ) (x : Bool) (t : ℕ) (p c : List ℕ) → reverse (spelled k f r x t p c) ≡ reverse c ++ (reverse p ++ target_back k f r x t)
spelled_back k f r x t p c =
    parts (kind_text k) (file_text f) (rank_text r) (capture_text x) (97 + file t) (49 + rank t) ∙ simp (kind_back, file_back, rank_back, capture_back)
  where
    parts : (K F R X : List ℕ) (a b : ℕ)
        → reverse (K ++ (F ++ (R ++ (X ++ (a ∷ b ∷ (p ++ c)))))) ≡ reverse c ++ (reverse p ++ (b ∷ a ∷ (reverse X ++ (reverse R ++ (reverse F ++ reverse K)))))
    parts K F R X a b =
        let two : reverse (a ∷ b ∷ (p ++ c)) ≡ reverse (p ++ c) ++ (b ∷ a ∷ []) = reverse-append (a ∷ b ∷ []) (p ++ c) in
        simp (reverse-append, two, append_assoc)

    file_back : (f : Option ℕ) → reverse (file_text f) ≡ file_text f
    file_back None = refl
    file_back (Some f) = refl

    rank_back : (r : Option ℕ) → reverse (rank_text r) ≡ rank_text r
    rank_back None = refl
    rank_back (Some r) = refl

    capture_back : (x : Bool) → reverse (capture_text x) ≡ capture_text x
    capture_back true = refl
    capture_back false = refl

castling_read : (s : Said) (o c : List ℕ) → CheckMark c → without_first is_check_mark o ≡ o → reverse o ≡ o → option_or (read_promotion o) (read_castling o) ≡ Some s → read_text (o ++ c) ≡ Some s
unfolding read_text
castling_read s o c h n b e =
    let a : reverse (o ++ c) ≡ reverse c ++ o = reverse-append o c ∙ ap (λ (w : List ℕ). reverse c ++ w) b in
    let d : without_first is_check_mark (reverse (o ++ c)) ≡ o = ap (without_first is_check_mark) a ∙ check_read c o h n in
    ap (λ (w : List ℕ). option_or (read_promotion w) (read_castling w)) d ∙ e

pub spells_read : (t : List ℕ) (s : Said) → Spells t s → read_text t ≡ Some s
unfolding read_text read_promotion read_target read_castling
spells_read t s (piece k f r x sq q p c l h u v i hp hc) =
    let y = promotion_read (rank sq) ((97 + file sq) ∷ origin_back k f r x) q p (omega arith) hp in
    let b : without_first is_check_mark (reverse (spelled k f r x sq p c)) ≡ reverse p ++ target_back k f r x sq =
    ap (without_first is_check_mark) (spelled_back k f r x sq p c) ∙ check_read c _ hc y.no_check in
    let d : read_promotion (without_first is_check_mark (reverse (spelled k f r x sq p c))) ≡ Some (going k f r sq q) =
    ap read_promotion b ∙ y.is ∙ target_read k f r x sq q l h u v i in
    ap (λ (o : Option Said). option_or o (read_castling (without_first is_check_mark (reverse (spelled k f r x sq p c))))) d
spells_read t s (kingside o c (inl e) hc) = subst (λ (o : List ℕ). read_text (o ++ c) ≡ Some (castling false)) (sym e) (castling_read (castling false) (bytes "O-O") c hc refl refl refl)
spells_read t s (kingside o c (inr e) hc) = subst (λ (o : List ℕ). read_text (o ++ c) ≡ Some (castling false)) (sym e) (castling_read (castling false) (bytes "0-0") c hc refl refl refl)
spells_read t s (queenside o c (inl e) hc) = subst (λ (o : List ℕ). read_text (o ++ c) ≡ Some (castling true)) (sym e) (castling_read (castling true) (bytes "O-O-O") c hc refl refl refl)
spells_read t s (queenside o c (inr e) hc) = subst (λ (o : List ℕ). read_text (o ++ c) ≡ Some (castling true)) (sym e) (castling_read (castling true) (bytes "0-0-0") c hc refl refl refl)
