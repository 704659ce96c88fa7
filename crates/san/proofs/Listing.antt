-- The legal moves are listed, each once.
use Rattle.std.proofs.Common.{◌≡◌, ℕ, zero, suc, ◌+◌, ◌<◌, ◌≤◌, Bool, true, false, List, [], ◌∷◌, map, sym, refl, ap, ◌∙◌, subst, inl, inr, arith}
use Rattle.std.specs.List.{range_with_len}
use Rattle.std.proofs.lemmas.Bool.{cases_Bool, cases_eq}
use Rattle.rules.specs.Parts.{Parts}
use Rattle.rules.specs.Move.{Move, move_number, numbered_move}
use Rattle.rules.specs.Lawful.{lawful}
use Rattle.rules.specs.Legal.{keep, legal, legal_moves, move_numbers}
use Rattle.rules.proofs.LawfulParts.{lawful_parts}
use Rattle.rules.proofs.LegalLaws.{legal_parts, legal_from, legal_promotion}
use Rattle.san.specs.Said.{Said, matches, matching}
use Rattle.san.proofs.Marks.{same_move, first_arm, second_arm}

kept : {X : Type 0} (f : X → Bool) (x : X) (xs : List X) → f x ≡ true → keep f (x ∷ xs) ≡ x ∷ keep f xs
unfolding keep
kept f x xs e = first_arm (f x) _ _ e

dropped : {X : Type 0} (f : X → Bool) (x : X) (xs : List X) → f x ≡ false → keep f (x ∷ xs) ≡ keep f xs
unfolding keep
dropped f x xs e = second_arm (f x) _ _ e

module _ (f g : Move → Bool) where
  -- both tests, and not both
  pub passed : (x : Move) (xs : List Move) → g x ≡ true → f x ≡ true → keep f (keep g (x ∷ xs)) ≡ x ∷ keep f (keep g xs)
  passed x xs a b = ap (keep f) (kept g x xs a) ∙ kept f x (keep g xs) b

  pub failed : (x : Move) (xs : List Move) → (g x ≡ true → f x ≡ true → ⊥) → keep f (keep g (x ∷ xs)) ≡ keep f (keep g xs)
  failed x xs h = elim (cases_Bool (g x)) [
    | inr a ↦ ap (keep f) (dropped g x xs a)
    | inl a ↦ elim (cases_Bool (f x)) [
      | inl b ↦ absurd (h a b)
      | inr b ↦ ap (keep f) (kept g x xs a) ∙ dropped f x (keep g xs) b
    ]
  ]

  pub none_kept : (a n : ℕ) → ((j : ℕ) → a ≤ j → g (numbered_move j) ≡ true → f (numbered_move j) ≡ true → ⊥) → keep f (keep g (map numbered_move (range_with_len a n))) ≡ []
  unfolding keep
  none_kept a zero h = refl
  none_kept a (suc n) h = failed (numbered_move a) _ (h a (omega arith)) ∙ none_kept (a + 1) n (λ j l. h j (omega arith))

  -- of moves by number, the only one that passes both
  one_kept : (i a n : ℕ) → a ≤ i → i < a + n → g (numbered_move i) ≡ true → f (numbered_move i) ≡ true
      → ((j : ℕ) → g (numbered_move j) ≡ true → f (numbered_move j) ≡ true → j ≡ i) → keep f (keep g (map numbered_move (range_with_len a n))) ≡ numbered_move i ∷ []
  one_kept i a zero l h x y u = absurd (omega arith)
  one_kept i a (suc n) l h x y u = elim (cases_eq i a) [
    | inl e ↦
        passed (numbered_move a) _ (subst (λ (k : ℕ). g (numbered_move k) ≡ true) e x) (subst (λ (k : ℕ). f (numbered_move k) ≡ true) e y)
        ∙ ap (λ (ms : List Move). numbered_move a ∷ ms) (none_kept (a + 1) n (λ j b v w. let z = u j v w in omega arith))
        ∙ ap (λ (k : ℕ). numbered_move k ∷ []) (sym e)
    | inr d ↦ failed (numbered_move a) _ (λ v w. d (sym (u a v w))) ∙ one_kept i (a + 1) n (omega arith) (omega arith) x y u
  ]

-- a legal move has a number, and its number tells it
pub move_numbered : (p : Parts) (m : Move) → lawful p ≡ true → legal p m ≡ true → (move_number m < move_numbers) × (numbered_move (move_number m) ≡ m)
move_numbered p m w h =
    let l = legal_parts p m h in
    let a = legal_from p m (lawful_parts p w).shown.0 l in
    let b = l.inside in
    let c : m.promotion ≤ 5 = elim (legal_promotion p m l) [ inl z ↦ omega arith | inr (_, _, z) ↦ z ] in
    (omega arith, same_move _ m (omega arith) (omega arith) (omega arith))

pub numbered_back : (n : ℕ) → move_number (numbered_move n) ≡ n
numbered_back n = omega arith

-- a text that matches one legal move alone has that move for its list
pub matching_one : (p : Parts) (s : Said) (m : Move) → lawful p ≡ true → legal p m ≡ true → matches p s m ≡ true
    → ((n : Move) → legal p n ≡ true → matches p s n ≡ true → n ≡ m) → matching p s ≡ m ∷ []
unfolding matching legal_moves
matching_one p s m w h k alone =
    let (l, e) = move_numbered p m w h in
    one_kept (matches p s) (legal p) (move_number m) 0 move_numbers (omega arith) (omega arith)
    (subst (λ (n : Move). legal p n ≡ true) (sym e) h) (subst (λ (n : Move). matches p s n ≡ true) (sym e) k)
    (λ j u v. sym (numbered_back j) ∙ ap move_number (alone (numbered_move j) u v))
    ∙ ap (λ (n : Move). n ∷ []) e
