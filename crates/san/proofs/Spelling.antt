-- A text that is read as something spells it.
use Rattle.std.proofs.Common.{◌≡◌, ℕ, ◌+◌, ◌-◌, ◌*◌, ◌<◌, ◌≤◌, Bool, true, false, cond, ◌&&◌, ◌||◌, eqb, leb, ◌⊎◌, List, [], ◌∷◌, ◌++◌, reverse, Some, None, codes as bytes, Option, sym, refl, ap, ◌∙◌, subst, inl, inr, arith}
use Rattle.std.specs.Option.{option_or}
use Rattle.std.proofs.lemmas.List.{reverse-append, reverse-reverse}
use Rattle.std.proofs.lemmas.Bool.{and_parts, or_cases, eqb-true, eqb-false, leb-true, cases_Bool, cond-true, cond-false, both_ways}
use Rattle.board.specs.Geometry.{file, rank}
use Rattle.san.specs.Said.{Said, castling, going}
use Rattle.san.specs.Written.{kind_text, file_text, rank_text, capture_text}
use Rattle.san.specs.Text.{is_file, is_rank, is_capture_mark, is_equals, is_check_mark, letter_kind, without_first, first_says, read_kind, read_origin, read_target, is_promotion, read_promotion, same_bytes, read_castling, read_text, CheckMark, PromotionText, Spells, piece, kingside, queenside}
use Rattle.san.proofs.Reading.{Small, origin_back, target_back, spelled, spelled_back}

no_some : (s : Said) → ◌≡◌ {A = Option Said} None (Some s) → ⊥
no_some s e = let z : ◌≡◌ {A = ℕ} 0 1 = cc in omega arith

pub some_said : (a b : Said) → ◌≡◌ {A = Option Said} (Some a) (Some b) → a ≡ b
some_said a b e = cc

-- a byte that passes stands first, or the list is as it was
first_cases : (f : ℕ → Bool) (xs : List ℕ)
    → ((x : ℕ) × (f x ≡ true) × (xs ≡ x ∷ without_first f xs)) ⊎ (without_first f xs ≡ xs)
first_cases f [] = inr refl
first_cases f (x ∷ xs) = elim (cases_Bool (f x)) [
  | inl e ↦ inl (x, e, ap (λ (w : List ℕ). x ∷ w) (sym (cond-true _ _ _ e)))
  | inr e ↦ inr (cond-false _ _ _ e)
]

-- the letters
record Letter (b k : ℕ) : Type 0 where
  least : 2 ≤ k
  most : k ≤ 6
  spelled_so : kind_text k ≡ b ∷ []

-- a test for one byte after another
letter_next : (b c k n : ℕ) → Letter c k → Letter b n ⊎ (n ≡ 0) → Letter b (cond (eqb b c) k n) ⊎ (cond (eqb b c) k n ≡ 0)
letter_next b c k n l h = elim (cases_Bool (eqb b c)) [
  | inl e ↦ inl (subst (λ (i : ℕ). Letter b i) (sym (cond-true _ k n e)) (subst (λ (a : ℕ). Letter a k) (sym (eqb-true _ _ e)) l))
  | inr e ↦ subst (λ (i : ℕ). Letter b i ⊎ (i ≡ 0)) (sym (cond-false _ k n e)) h
]

letter_cases : (b : ℕ) → Letter b (letter_kind b) ⊎ (letter_kind b ≡ 0)
unfolding kind_text
letter_cases b =
    letter_next b 78 2 _ (record { least = omega arith; most = omega arith; spelled_so = refl })
    (letter_next b 66 3 _ (record { least = omega arith; most = omega arith; spelled_so = refl })
    (letter_next b 82 4 _ (record { least = omega arith; most = omega arith; spelled_so = refl })
    (letter_next b 81 5 _ (record { least = omega arith; most = omega arith; spelled_so = refl })
    (letter_next b 75 6 0 (record { least = omega arith; most = omega arith; spelled_so = refl }) (inr refl)))))

-- what is left is a kind's text
record KindLeft (k : ℕ) (xs : List ℕ) : Type 0 where
  least : 1 ≤ k
  most : k ≤ 6
  is : xs ≡ kind_text k

kind_left : (xs : List ℕ) → (read_kind xs ≡ 0 → ⊥) → KindLeft (read_kind xs) xs
unfolding kind_text
kind_left [] h = record { least = omega arith; most = omega arith; is = refl }
kind_left (x ∷ []) h = elim (letter_cases x) [
  | inl l ↦ let a = l.least in let b = l.most in record { least = omega arith; most = b; is = sym l.spelled_so }
  | inr e ↦ absurd (h e)
]
kind_left (x ∷ (y ∷ r)) h = absurd (h refl)

-- what a first byte says, in order
record Says (text : Option ℕ → List ℕ) (o : Option ℕ) (xs ys : List ℕ) : Type 0 where
  small : Small o
  is : xs ≡ text o ++ ys

first_said : (base top : ℕ) (text : Option ℕ → List ℕ) → top ≡ base + 7 → text None ≡ [] → ((n : ℕ) → text (Some n) ≡ (base + n) ∷ []) → (xs : List ℕ)
    → Says text (first_says (λ b. leb base b && leb b top) base xs) xs (without_first (λ b. leb base b && leb b top) xs)
first_said base top text w none some [] = record { small = tt; is = ap (λ (t : List ℕ). t ++ []) (sym none) }
first_said base top text w none some (x ∷ xs) = elim (cases_Bool (leb base x && leb x top)) [
  | inl e ↦
      let a = and_parts (leb base x) (leb x top) e in
      let l = leb-true _ _ a.0 in
      let h = leb-true _ _ a.1 in
      let q : base + (x - base) ≡ x = omega arith in
      at true e (record { small = omega arith; is = ap (λ (y : ℕ). y ∷ xs) (sym q) ∙ ap (λ (t : List ℕ). t ++ xs) (sym (some (x - base))) })
  | inr e ↦ at false e (record { small = tt; is = ap (λ (t : List ℕ). t ++ (x ∷ xs)) (sym none) })
]
  where
    at : (b : Bool) → (leb base x && leb x top) ≡ b → Says text (cond b (Some (x - base)) None) (x ∷ xs) (cond b xs (x ∷ xs))
        → Says text (first_says (λ b. leb base b && leb b top) base (x ∷ xs)) (x ∷ xs) (without_first (λ b. leb base b && leb b top) (x ∷ xs))
    at b e s = subst (λ (b : Bool). Says text (cond b (Some (x - base)) None) (x ∷ xs) (cond b xs (x ∷ xs))) (sym e) s

file_says : (xs : List ℕ) → Says file_text (first_says is_file 97 xs) xs (without_first is_file xs)
file_says = first_said 97 104 file_text refl refl (λ n. refl)

rank_says : (xs : List ℕ) → Says rank_text (first_says is_rank 49 xs) xs (without_first is_rank xs)
rank_says = first_said 49 56 rank_text refl refl (λ n. refl)

capture_says : (xs : List ℕ) → (x : Bool) × (xs ≡ capture_text x ++ without_first is_capture_mark xs)
capture_says xs = elim (first_cases is_capture_mark xs) [
  | inl (b, h, e) ↦ (true, e ∙ ap (λ (n : ℕ). n ∷ without_first is_capture_mark xs) (eqb-true _ _ h))
  | inr e ↦ (false, sym e)
]

-- what is read before the target
record OriginLeft (q t : ℕ) (xs : List ℕ) (s : Said) : Type 0 where
  k : ℕ
  f : Option ℕ
  r : Option ℕ
  x : Bool
  least : 1 ≤ k
  most : k ≤ 6
  file_in : Small f
  rank_in : Small r
  bytes_are : xs ≡ origin_back k f r x
  said_is : going k f r t q ≡ s

origin_left : (q t : ℕ) (xs : List ℕ) (s : Said) → read_origin q t xs ≡ Some s → OriginLeft q t xs s
unfolding read_origin
origin_left q t xs s h =
    let a = without_first is_capture_mark xs in
    let b = without_first is_rank a in
    let k = read_kind (without_first is_file b) in
    let o : Option Said = Some (going k (first_says is_file 97 b) (first_says is_rank 49 a) t q) in
    elim (cases_Bool (eqb k 0)) [
      | inl e ↦ absurd (no_some s (sym (cond-true _ None o e) ∙ h))
      | inr e ↦
          let c = capture_says xs in
          let u = rank_says a in
          let v = file_says b in
          let w = kind_left (without_first is_file b) (eqb-false k 0 e) in
          let g : o ≡ Some s = sym (cond-false _ None o e) ∙ h in
          record {
            k = k;
            f = first_says is_file 97 b;
            r = first_says is_rank 49 a;
            x = c.0;
            least = w.least;
            most = w.most;
            file_in = v.small;
            rank_in = u.small;
            bytes_are = c.1 ∙ ap (λ (z : List ℕ). capture_text c.0 ++ z) (u.is ∙ ap (λ (z : List ℕ). rank_text (first_says is_rank 49 a) ++ z)
                (v.is ∙ ap (λ (z : List ℕ). file_text (first_says is_file 97 b) ++ z) w.is));
            said_is = some_said _ _ g;
          }
    ]

-- from the target on
record TargetLeft (q : ℕ) (xs : List ℕ) (s : Said) : Type 0 where
  t : ℕ
  ys : List ℕ
  inside : t < 64
  bytes_are : xs ≡ (49 + rank t) ∷ (97 + file t) ∷ ys
  origin : read_origin q t ys ≡ Some s

target_left : (q : ℕ) (xs : List ℕ) (s : Said) → read_target q xs ≡ Some s → TargetLeft q xs s
unfolding read_target
target_left q [] s h = absurd (no_some s h)
target_left q (r ∷ []) s h = absurd (no_some s h)
target_left q (r ∷ (f ∷ ys)) s h =
    let o = read_origin q (8 * (r - 49) + (f - 97)) ys in
    elim (cases_Bool (is_rank r && is_file f)) [
      | inr e ↦ absurd (no_some s (sym (cond-false _ o None e) ∙ h))
      | inl e ↦
          let a = and_parts (is_rank r) (is_file f) e in
          let b = and_parts (leb 49 r) (leb r 56) a.0 in
          let c = and_parts (leb 97 f) (leb f 104) a.1 in
          let b₀ = leb-true _ _ b.0 in
          let b₁ = leb-true _ _ b.1 in
          let c₀ = leb-true _ _ c.0 in
          let c₁ = leb-true _ _ c.1 in
          let x : r ≡ 49 + rank (8 * (r - 49) + (f - 97)) = omega arith in
          let y : f ≡ 97 + file (8 * (r - 49) + (f - 97)) = omega arith in
          record {
            t = 8 * (r - 49) + (f - 97);
            ys = ys;
            inside = omega arith;
            bytes_are = λ i. x i ∷ y i ∷ ys;
            origin = sym (cond-true _ o None e) ∙ h;
          }
    ]

-- from the promotion on
record PromotionLeft (xs : List ℕ) (s : Said) : Type 0 where
  q : ℕ
  p : List ℕ
  ys : List ℕ
  promotion : PromotionText q p
  bytes_are : xs ≡ reverse p ++ ys
  target : read_target q ys ≡ Some s

promotion_left : (xs : List ℕ) (s : Said) → read_promotion xs ≡ Some s → PromotionLeft xs s
unfolding read_promotion
promotion_left [] s h = absurd (no_some s h)
promotion_left (x ∷ xs) s h =
    let q = letter_kind x in
    let ys = without_first is_equals xs in
    elim (cases_Bool (is_promotion x)) [
      | inr e ↦ record { q = 0; p = []; ys = x ∷ xs; promotion = inl (refl, refl); bytes_are = refl; target = sym (cond-false _ (read_target q ys) (read_target 0 (x ∷ xs)) e) ∙ h }
      | inl e ↦
          let g : read_target q ys ≡ Some s = sym (cond-true _ (read_target q ys) (read_target 0 (x ∷ xs)) e) ∙ h in
          let a = and_parts (leb 2 q) (leb q 5) e in
          let l = leb-true _ _ a.0 in
          let m = leb-true _ _ a.1 in
          let k : kind_text q ≡ x ∷ [] = elim (letter_cases x) [ inl c ↦ c.spelled_so | inr z ↦ absurd (omega arith) ] in
          elim (first_cases is_equals xs) [
            | inl (y, d, z) ↦ record {
              q = q;
              p = 61 ∷ x ∷ [];
              ys = ys;
              promotion = inr (l, m, inr (ap (λ (w : List ℕ). 61 ∷ w) (sym k)));
              bytes_are = ap (λ (w : List ℕ). x ∷ w) (z ∙ ap (λ (n : ℕ). n ∷ ys) (eqb-true y 61 d));
              target = g;
            }
            | inr z ↦ record { q = q; p = x ∷ []; ys = ys; promotion = inr (l, m, inl (sym k)); bytes_are = ap (λ (w : List ℕ). x ∷ w) (sym z); target = g }
          ]
    ]

-- the mark at the end
check_left : (xs : List ℕ) → (c : List ℕ) × CheckMark c × (xs ≡ reverse c ++ without_first is_check_mark xs)
check_left xs = elim (first_cases is_check_mark xs) [
  | inr e ↦ ([], inl refl, sym e)
  | inl (x, h, e) ↦ elim (or_cases (eqb x 43) (eqb x 35) h) [
    | inl a ↦ (bytes "+", inr (inl refl), e ∙ ap (λ (n : ℕ). n ∷ without_first is_check_mark xs) (eqb-true _ _ a))
    | inr a ↦ (bytes "#", inr (inr refl), e ∙ ap (λ (n : ℕ). n ∷ without_first is_check_mark xs) (eqb-true _ _ a))
  ]
]

-- castling
bytes_same : (xs ys : List ℕ) → same_bytes xs ys ≡ true → xs ≡ ys
bytes_same [] [] h = refl
bytes_same [] (y ∷ ys) h = absurd (both_ways false refl h)
bytes_same (x ∷ xs) [] h = absurd (both_ways false refl h)
bytes_same (x ∷ xs) (y ∷ ys) h =
    let a = and_parts (eqb x y) (same_bytes xs ys) h in
    let u = eqb-true x y a.0 in
    let v = bytes_same xs ys a.1 in
    λ i. u i ∷ v i

data CastlingLeft (xs : List ℕ) (s : Said) : Type 0 where
  short : castling false ≡ s → (xs ≡ bytes "O-O") ⊎ (xs ≡ bytes "0-0") → CastlingLeft xs s
  long : castling true ≡ s → (xs ≡ bytes "O-O-O") ⊎ (xs ≡ bytes "0-0-0") → CastlingLeft xs s

castling_left : (xs : List ℕ) (s : Said) → read_castling xs ≡ Some s → CastlingLeft xs s
unfolding read_castling
castling_left xs s h =
    let a = same_bytes xs (bytes "O-O") || same_bytes xs (bytes "0-0") in
    let b = same_bytes xs (bytes "O-O-O") || same_bytes xs (bytes "0-0-0") in
    elim (cases_Bool a) [
      | inl e ↦ short (some_said _ _ (sym (cond-true a (Some (castling false)) (cond b (Some (castling true)) None) e) ∙ h)) (either _ _ e)
      | inr e ↦
          let h' = sym (cond-false a (Some (castling false)) (cond b (Some (castling true)) None) e) ∙ h in
          elim (cases_Bool b) [
            | inl d ↦ long (some_said _ _ (sym (cond-true b (Some (castling true)) None d) ∙ h')) (either _ _ d)
            | inr d ↦ absurd (no_some s (sym (cond-false b (Some (castling true)) None d) ∙ h'))
          ]
    ]
  where
    either : (u v : List ℕ) → (same_bytes xs u || same_bytes xs v) ≡ true → (xs ≡ u) ⊎ (xs ≡ v)
    either u v e = elim (or_cases _ _ e) [ inl x ↦ inl (bytes_same xs u x) | inr x ↦ inr (bytes_same xs v x) ]

-- the whole, turned round again
turned : (t xs : List ℕ) → reverse t ≡ xs → t ≡ reverse xs
turned t xs e = sym (reverse-reverse t) ∙ ap reverse e

read_cases : (o : Option Said) (s : Said) (u : Option Said) → option_or o u ≡ Some s → (o ≡ Some s) ⊎ (u ≡ Some s)
read_cases None s u h = inr h
read_cases (Some x) s u h = inl h

pub read_spells : (t : List ℕ) (s : Said) → read_text t ≡ Some s → Spells t s
unfolding read_text
read_spells t s h =
    let xs = without_first is_check_mark (reverse t) in
    let (c, hc, ec) = check_left (reverse t) in
    elim (read_cases (read_promotion xs) s (read_castling xs) h) [
      | inl g ↦
          let a = promotion_left xs s g in
          let b = target_left a.q a.ys s a.target in
          let d = origin_left a.q b.t b.ys s b.origin in
          let e : reverse t ≡ reverse c ++ (reverse a.p ++ target_back d.k d.f d.r d.x b.t) =
          ec ∙ ap (λ (w : List ℕ). reverse c ++ w) (a.bytes_are ∙ ap (λ (w : List ℕ). reverse a.p ++ w)
          (b.bytes_are ∙ ap (λ (w : List ℕ). (49 + rank b.t) ∷ (97 + file b.t) ∷ w) d.bytes_are)) in
          let f : t ≡ spelled d.k d.f d.r d.x b.t a.p c =
          turned t _ (e ∙ sym (spelled_back d.k d.f d.r d.x b.t a.p c)) ∙ reverse-reverse _ in
          subst (λ (w : List ℕ). Spells w s) (sym f) (subst (λ (s : Said). Spells (spelled d.k d.f d.r d.x b.t a.p c) s) d.said_is
          (piece d.k d.f d.r d.x b.t a.q a.p c d.least d.most d.file_in d.rank_in b.inside a.promotion hc))
      | inr g ↦
          let f : t ≡ reverse xs ++ c = turned t _ ec ∙ reverse-append (reverse c) xs ∙ ap (λ (w : List ℕ). reverse xs ++ w) (reverse-reverse c) in
          subst (λ (w : List ℕ). Spells w s) (sym f) (castled xs c hc (castling_left xs s g))
    ]
  where
    castled : (xs c : List ℕ) → CheckMark c → CastlingLeft xs s → Spells (reverse xs ++ c) s
    castled xs c hc (short e o) = subst (λ (s : Said). Spells (reverse xs ++ c) s) e (kingside (reverse xs) c (elim o [ inl a ↦ inl (ap reverse a) | inr a ↦ inr (ap reverse a) ]) hc)
    castled xs c hc (long e o) = subst (λ (s : Said). Spells (reverse xs ++ c) s) e (queenside (reverse xs) c (elim o [ inl a ↦ inl (ap reverse a) | inr a ↦ inr (ap reverse a) ]) hc)
