-- Legality, from what the tests of a move answer.
use Rattle.std.proofs.Common.{◌≡◌, ℕ, ◌+◌, ◌/◌, ◌%◌, ◌<◌, ◌≤◌, Bool, true, false, cond, not, ◌&&◌, eqb, ltb, leb, List, [], ◌∷◌, ◌++◌, map, get_or, Some, None, Option, sym, refl, ap, ◌∙◌, ⊎_elim, arith}
use Rattle.std.specs.List.{range_with_len}
use Rattle.std.specs.Option.{option_map, is_some}
use Rattle.std.proofs.lemmas.List.FromFn.{map-range_with_len_more}
use Rattle.std.proofs.lemmas.List.{map-append, append-nil}
use Rattle.std.proofs.lemmas.Bool.{eqb-true, lt-ltb, ne_eqb, and_from, both_ways, cases_eq, cond-true, cond-false}
use Rattle.board.specs.declared.piece.Kind.TheVariants.{Pawn}
use Rattle.board.specs.Piece.{code}
use Rattle.board.proofs.BelowLaws.{not_passed, some_from, some_none}
use Rattle.rules.specs.Parts.{Parts}
use Rattle.rules.specs.Lawful.{lawful}
use Rattle.rules.specs.Move.{Move, numbered_move, is_pawn_move}
use Rattle.rules.specs.Legal.{of_side, last_rank, promotes, legal, keep, legal_moves, move_numbers, can_move}
use Rattle.rules.proofs.LawfulParts.{lawful_parts}
use Rattle.rules.proofs.LegalLaws.{legal_parts, legal_promotion, goes_pawn}
use Rattle.moves.specs.Action.{is_move_number}

-- a number of no move is that of no legal one
no_legal : (p : Parts) (n : ℕ) → n / 4096 ≡ 1 → legal p (numbered_move n) ≡ false
no_legal p n e = not_passed _ (λ l. ⊎_elim
    (λ (z : n / 4096 ≡ 0). omega arith)
    (λ (z : (is_pawn_move p (numbered_move n) ≡ true) × (2 ≤ n / 4096) × (n / 4096 ≤ 5)). let k = z.1 in omega arith)
    (legal_promotion p (numbered_move n) (legal_parts p (numbered_move n) l)))

pub none_numbered : (p : Parts) (n : ℕ) → n < 24576 → ◌≡◌ {A = Option Move} None (cond (is_move_number n) (Some (numbered_move n)) None)
    → ◌≡◌ {A = Option Move} None (cond (legal p (numbered_move n)) (Some (numbered_move n)) None)
none_numbered p n h e = ⊎_elim
    (λ (k : n / 4096 ≡ 1). sym (cond-false _ (Some (numbered_move n)) None (no_legal p n k)))
    (λ (k : n / 4096 ≡ 1 → ⊥).
    let t = and_from (ltb n 24576) (not (eqb (n / 4096) 1)) (lt-ltb n 24576 h) (ap not (ne_eqb (n / 4096) 1 k)) in
    let s : ◌≡◌ {A = Option Move} None (Some (numbered_move n)) = e ∙ cond-true _ (Some (numbered_move n)) None t in
    cc)
    (cases_eq (n / 4096) 1)

-- moves that are worth no trial
module _ (p : Parts) (n x : ℕ) (ex : x ≡ get_or p.codes (n % 64) 0) where
  pub not_own : of_side p.side x ≡ false → legal p (numbered_move n) ≡ false
  not_own e = not_passed _ (λ l.
      both_ways (of_side p.side x) e (ap (of_side p.side) ex ∙ (legal_parts p (numbered_move n) l).own))

  pub promoting : 4096 ≤ n → legal p (numbered_move n) ≡ true → (is_pawn_move p (numbered_move n) ≡ true) × (promotes p.side (numbered_move n) ≡ true)
  promoting h l =
      let q = legal_parts p (numbered_move n) l in
      ⊎_elim
      (λ (z : n / 4096 ≡ 0). absurd (omega arith))
      (λ (z : (is_pawn_move p (numbered_move n) ≡ true) × (2 ≤ n / 4096) × (n / 4096 ≤ 5)). (z.0, (goes_pawn p (numbered_move n) z.0 q.way).0))
      (legal_promotion p (numbered_move n) q)

  pub not_pawn : 4096 ≤ n → (x ≡ code p.side Pawn → ⊥) → legal p (numbered_move n) ≡ false
  not_pawn h no' = not_passed _ (λ l. no' (ex ∙ eqb-true _ _ (promoting h l).0))

  pub not_last : 4096 ≤ n → (n / 64 % 64 / 8 ≡ last_rank p.side → ⊥) → legal p (numbered_move n) ≡ false
  not_last h no' = not_passed _ (λ l.
      let r = sym (cond-false _ (leb 2 (n / 4096) && leb (n / 4096) 5) (eqb (n / 4096) 0) (ne_eqb _ _ no')) ∙ (promoting h l).1 in
      let z = eqb-true (n / 4096) 0 r in omega arith)

-- a pawn does not stand on the last rank
pub pawn_inside : (p : Parts) (m : Move) → lawful p ≡ true → is_pawn_move p m ≡ true → m.from < 56
pawn_inside p m h e = ((lawful_parts p h).placed p.side m.from (eqb-true _ _ e)).1

-- what trying the move with a number tells
pub found_legal : (b : Bool) (m x : Move) → Some x ≡ cond b (Some m) None → (b ≡ true) × (x ≡ m)
found_legal true m x e = (refl, cc)
found_legal false m x e = absurd (let z : ◌≡◌ {A = ℕ} 0 1 = cc in omega arith)

pub some_legal : {X : Type 0} (b : Bool) (m : Move) (plain : X → Move) (o : Option X) → option_map plain o ≡ cond b (Some m) None → is_some o ≡ true → b ≡ true
some_legal true m plain o e h = refl
some_legal false m plain None e h = absurd (both_ways false refl h)
some_legal false m plain (Some x) e h = absurd (let z : ◌≡◌ {A = ℕ} 0 1 = cc in omega arith)

pub found_none : (b : Bool) (m : Move) → ◌≡◌ {A = Option Move} None (cond b (Some m) None) → b ≡ false
found_none true m e = absurd (let z : ◌≡◌ {A = ℕ} 0 1 = cc in omega arith)
found_none false m e = refl

-- the legal moves with a number below a bound
pub keep_append : (f : Move → Bool) (xs ys : List Move) → keep f (xs ++ ys) ≡ keep f xs ++ keep f ys
unfolding keep
keep_append f [] ys = refl
keep_append f (x ∷ xs) ys = step (f x) (keep_append f xs ys)
  where
    step : (b : Bool) → keep f (xs ++ ys) ≡ keep f xs ++ keep f ys
        → (elim b [ true ↦ x ∷ keep f (xs ++ ys) | false ↦ keep f (xs ++ ys) ]) ≡ (elim b [ true ↦ x ∷ keep f xs | false ↦ keep f xs ]) ++ keep f ys
    step true e = ap (λ l. x ∷ l) e
    step false e = e

pub keep_one : (f : Move → Bool) (x : Move) → f x ≡ true → keep f (x ∷ []) ≡ x ∷ []
unfolding keep
keep_one f x e = rw (e, keep)

pub keep_none : (f : Move → Bool) (x : Move) → f x ≡ false → keep f (x ∷ []) ≡ []
unfolding keep
keep_none f x e = rw (e, keep)

abbrev pub legal_below : Parts → ℕ → List Move
legal_below p n = keep (legal p) (map numbered_move (range_with_len 0 n))

below_more : (p : Parts) (n : ℕ) → legal_below p (n + 1) ≡ legal_below p n ++ keep (legal p) (numbered_move n ∷ [])
below_more p n = ap (keep (legal p)) (map-range_with_len_more numbered_move 0 n n (omega arith)) ∙ keep_append (legal p) (map numbered_move (range_with_len 0 n)) (numbered_move n ∷ [])

pub one_more : (p : Parts) (n : ℕ) → legal p (numbered_move n) ≡ true → legal_below p (n + 1) ≡ legal_below p n ++ (numbered_move n ∷ [])
one_more p n e = below_more p n ∙ ap (λ l. legal_below p n ++ l) (keep_one (legal p) (numbered_move n) e)

pub none_more : (p : Parts) (n : ℕ) → legal p (numbered_move n) ≡ false → legal_below p (n + 1) ≡ legal_below p n
none_more p n e = below_more p n ∙ ap (λ l. legal_below p n ++ l) (keep_none (legal p) (numbered_move n) e) ∙ append-nil (legal_below p n)

pub all_below : (p : Parts) (n : ℕ) → n ≡ move_numbers → legal_below p n ≡ legal_moves p
unfolding legal_moves
all_below p n e = ap (legal_below p) e

-- a list of moves that the code has, one turn on
module _ (p : Parts) (n : ℕ) {X : Type 0} (plain : X → Move) (was : List X) (ew : map plain was ≡ legal_below p n) where
  pub turn_found : (x : X) (l : List X) → Some (plain x) ≡ cond (legal p (numbered_move n)) (Some (numbered_move n)) None → l ≡ was ++ (x ∷ [])
      → map plain l ≡ legal_below p (n + 1)
  turn_found x l e el =
      let f = found_legal _ (numbered_move n) (plain x) e in
      let a = map-append plain was (x ∷ []) in
      let o = one_more p n f.0 in
      let i : map plain (x ∷ []) ≡ numbered_move n ∷ [] = ap (λ (y : Move). y ∷ []) f.1 in
      ap (map plain) el ∙ a ∙ cc (ew, i, o)

  pub turn_none : ◌≡◌ {A = Option Move} None (cond (legal p (numbered_move n)) (Some (numbered_move n)) None) → map plain was ≡ legal_below p (n + 1)
  turn_none e = ew ∙ sym (none_more p n (found_none _ (numbered_move n) e))

pub none_below : (p : Parts) → legal_below p 0 ≡ []
unfolding keep
none_below p = refl

-- whether there is one
pub can_found : (p : Parts) (n : ℕ) → n < move_numbers → legal p (numbered_move n) ≡ true → true ≡ can_move p
unfolding can_move
can_found p n h e = sym (some_from move_numbers (λ k. legal p (numbered_move k)) n h e)

pub can_missed : (p : Parts) → ((k : ℕ) → k < move_numbers → legal p (numbered_move k) ≡ false) → false ≡ can_move p
unfolding can_move
can_missed p f = sym (some_none move_numbers (λ k. legal p (numbered_move k)) f)
