-- The moves that a text matches, found from the squares that they come from.
use Rattle.std.proofs.Common.{◌≡◌, ℕ, zero, suc, ◌+◌, ◌-◌, ◌*◌, ◌<◌, ◌≤◌, Bool, true, false, not, ◌&&◌, eqb, List, [], ◌∷◌, map, Option, sym, ap, ◌∙◌, subst, inl, inr, arith}
use Rattle.std.specs.List.{range_with_len}
use Rattle.std.proofs.lemmas.Bool.{and_parts, both_ways, cases_Bool, eqb-true, le-ltb, lt-ltb}
use Rattle.board.specs.Geometry.{file, rank}
use Rattle.rules.specs.Parts.{Parts}
use Rattle.rules.specs.Move.{Move, numbered_move, is_castling}
use Rattle.rules.specs.Lawful.{king_home}
use Rattle.rules.specs.Legal.{keep, legal, legal_moves, move_numbers, going_from}
use Rattle.rules.proofs.LegalLaws.{legal_parts, legal_castling, CastlingWay, kingside, queenside}
use Rattle.san.specs.Said.{castling, going, same, is_queenside, matches, matching, kind, file_agrees, agrees}
use Rattle.san.specs.Sources.{castling_move, BySource, ByCastling}
use Rattle.san.proofs.Marks.{same_move}
use Rattle.san.proofs.Listing.{passed, failed, none_kept, matching_one}
use Rattle.san.proofs.Alone.{castling_plain, same_true, home_far}

module _ (f g : Move → Bool) where
  abbrev Both : List Move → List Move
  Both ms = keep f (keep g ms)

  both_cons : (x : Move) (xs ys : List Move) → Both xs ≡ Both ys → Both (x ∷ xs) ≡ Both (x ∷ ys)
  both_cons x xs ys e = elim (cases_Bool (g x)) [
    | inl a ↦ elim (cases_Bool (f x)) [
      | inl b ↦ passed f g x xs a b ∙ ap (λ (ms : List Move). x ∷ ms) e ∙ sym (passed f g x ys a b)
      | inr b ↦ failed f g x xs (λ _ c. both_ways (f x) b c) ∙ e ∙ sym (failed f g x ys (λ _ c. both_ways (f x) b c))
    ]
    | inr a ↦ failed f g x xs (λ c _. both_ways (g x) a c) ∙ e ∙ sym (failed f g x ys (λ c _. both_ways (g x) a c))
  ]

  -- moves to one target with one promotion have numbers in one block
  module _ (t q : ℕ) (ht : t < 64) (fits : (m : Move) → f m ≡ true → (m.to ≡ t) × (m.promotion ≡ q)) where
    abbrev base : ℕ
    base = 64 * t + 4096 * q

    abbrev From : ℕ → ℕ → List Move
    From a n = Both (map numbered_move (range_with_len a n))

    skipped : (k a m n : ℕ) → m ≡ k + n → a + k ≤ base → From a m ≡ From (a + k) n
    skipped zero a m n e h =
        let x : a ≡ a + zero = omega arith in
        let y : m ≡ n = omega arith in
        ap (λ (z : ℕ). From z m) x ∙ ap (From (a + zero)) y
    skipped (suc k) a zero n e h = absurd (omega arith)
    skipped (suc k) a (suc m) n e h =
        let x : a + 1 + k ≡ a + suc k = omega arith in
        failed f g (numbered_move a) _ (λ _ b. let w = fits (numbered_move a) b in let u = w.0 in let v = w.1 in omega arith)
        ∙ skipped k (a + 1) m n (omega arith) (omega arith) ∙ ap (λ (z : ℕ). From z n) x

    block : (j i m n : ℕ) → m ≡ j + n → i + j ≡ 64 → From (base + i) m ≡ Both (map (going_from t q) (range_with_len i j))
    unfolding keep
    block zero i m n e h = none_kept f g (base + i) m (λ x l _ b. let w = fits (numbered_move x) b in let u = w.0 in let v = w.1 in omega arith)
    block (suc j) i zero n e h = absurd (omega arith)
    block (suc j) i (suc m) n e h =
        let here : numbered_move (base + i) ≡ going_from t q i = same_move _ _ (omega arith) (omega arith) (omega arith) in
        let x : base + i + 1 ≡ base + (i + 1) = omega arith in
        ap (λ (y : Move). Both (y ∷ map numbered_move (range_with_len (base + i + 1) m))) here
        ∙ both_cons (going_from t q i) _ _ (ap (λ (z : ℕ). From z m) x ∙ block j (i + 1) m n (omega arith) (omega arith))

    pub in_block : q ≤ 5 → From 0 move_numbers ≡ Both (map (going_from t q) (range_with_len 0 64))
    in_block hq =
        let x : 0 + base ≡ base + 0 = omega arith in
        skipped base 0 move_numbers (move_numbers - base) (omega arith) (omega arith)
        ∙ ap (λ (z : ℕ). From z (move_numbers - base)) x
        ∙ block 64 0 (move_numbers - base) (move_numbers - base - 64) (omega arith) (omega arith)

-- a piece's text fixes target and promotion
going_fits : (p : Parts) (k : ℕ) (f r : Option ℕ) (t q : ℕ) (m : Move) → matches p (going k f r t q) m ≡ true → (m.to ≡ t) × (m.promotion ≡ q)
unfolding matches
going_fits p k f r t q m h =
    let a = and_parts (not (is_castling p m) && eqb k (kind p m) && eqb t m.to && eqb q m.promotion && file_agrees k f (file m.from) t) (agrees r (rank m.from)) h in
    let b = and_parts (not (is_castling p m) && eqb k (kind p m) && eqb t m.to && eqb q m.promotion) (file_agrees k f (file m.from) t) a.0 in
    let c = and_parts (not (is_castling p m) && eqb k (kind p m) && eqb t m.to) (eqb q m.promotion) b.0 in
    let d = and_parts (not (is_castling p m) && eqb k (kind p m)) (eqb t m.to) c.0 in
    (sym (eqb-true _ _ d.1), sym (eqb-true _ _ c.1))

pub by_source : BySource
unfolding matching legal_moves
by_source p k f r t q ht hq = in_block (matches p (going k f r t q)) (legal p) t q ht (going_fits p k f r t q) hq

-- a castling text fixes the move
castling_fits : (p : Parts) (b : Bool) (n : Move) → legal p n ≡ true → matches p (castling b) n ≡ true → n ≡ castling_move p.side b
unfolding matches
castling_fits p b n h k =
    let a = and_parts (is_castling p n) (same b (is_queenside n)) k in
    let l = legal_parts p n h in
    let c = legal_castling p n l a.0 in
    same_move n (castling_move p.side b) c.0 (lands b (sym (same_true b (is_queenside n) a.1)) c.0 c.1) (castling_plain p n l a.0)
  where
    lands : (b : Bool) → is_queenside n ≡ b → n.from ≡ king_home p.side → CastlingWay p n → n.to ≡ (castling_move p.side b).to
    lands true e f (kingside x _) = let g = home_far p.side in absurd (both_ways _ (le-ltb n.to n.from (omega arith)) e)
    lands true e f (queenside x _) = x
    lands false e f (kingside x _) = x
    lands false e f (queenside x _) = let g = home_far p.side in absurd (both_ways _ e (lt-ltb n.to n.from (omega arith)))

pub by_castling : ByCastling
unfolding matching legal_moves keep
by_castling p b w =
    let m = castling_move p.side b in
    let f = matches p (castling b) in
    elim (cases_Bool (legal p m)) [
      | inl x ↦ elim (cases_Bool (f m)) [
        | inl y ↦ matching_one p (castling b) m w x y (castling_fits p b) ∙ sym (passed f (legal p) m [] x y)
        | inr y ↦ nothing f m (λ u v. both_ways (f m) y v) (castling_fits p b)
      ]
      | inr x ↦ nothing f m (λ u v. both_ways (legal p m) x u) (castling_fits p b)
    ]
  where
    nothing : (f : Move → Bool) (m : Move) → (legal p m ≡ true → f m ≡ true → ⊥) → ((n : Move) → legal p n ≡ true → f n ≡ true → n ≡ m)
        → keep f (keep (legal p) (map numbered_move (range_with_len 0 move_numbers))) ≡ keep f (keep (legal p) (m ∷ []))
    nothing f m no' alone =
        none_kept f (legal p) 0 move_numbers (λ j _ u v.
        let e = alone (numbered_move j) u v in
        no' (subst (λ (n : Move). legal p n ≡ true) e u) (subst (λ (n : Move). f n ≡ true) e v))
        ∙ sym (failed f (legal p) m [] no')
