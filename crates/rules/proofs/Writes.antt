-- Writes to a list of codes, and what they keep.
use Rattle.std.proofs.Common.{◌≡◌, ℕ, zero, suc, ◌+◌, ◌<◌, ◌≤◌, cond, eqb, ◌⊎◌, List, [], ◌∷◌, length, get_or, set, sym, ap, ◌∙◌, subst, inl, inr, arith}
use Rattle.std.proofs.lemmas.List.{length-set, get_or-set_same, get_or-set_other}
use Rattle.std.proofs.lemmas.Bool.{cases_eq, cond-false, ne_eqb}
use Rattle.board.specs.declared.side.Side.{Side}
use Rattle.board.specs.declared.side.Side.TheVariants.{White, Black}
use Rattle.board.specs.declared.piece.Kind.TheVariants.{Pawn, Rook, King}
use Rattle.board.specs.Piece.{code}
use Rattle.board.specs.Meaning.{Shown}
use Rattle.rules.specs.Lawful.{count}
use Rattle.rules.specs.After.{moved}
use Rattle.rules.proofs.LawfulParts.{Placed}

-- 1 where x is c
abbrev pub one_if : ℕ → ℕ → ℕ
one_if c x = cond (eqb x c) 1 0

-- a code's count after a write
pub count_set : (c : ℕ) (l : List ℕ) (i x : ℕ) → i < length l → count c (set l i x) + one_if c (get_or l i 0) ≡ count c l + one_if c x
unfolding count
count_set c [] i x h = absurd (omega arith)
count_set c (y ∷ l) zero x h = omega arith
count_set c (y ∷ l) (suc i) x h = let e = count_set c l i x (omega arith) in omega arith

-- reading after a code has gone from one square to another
pub moved_other : (l : List ℕ) (s t c j : ℕ) → (j ≡ s → ⊥) → (j ≡ t → ⊥) → get_or (moved l s t c) j 0 ≡ get_or l j 0
unfolding moved
moved_other l s t c j a b = get_or-set_other (set l s 0) t j c 0 b ∙ get_or-set_other l s j 0 0 a

pub moved_to : (l : List ℕ) (s t c : ℕ) → t < length l → get_or (moved l s t c) t 0 ≡ c
unfolding moved
moved_to l s t c h = get_or-set_same (set l s 0) t c 0 (subst (λ (n : ℕ). t < n) (sym (length-set l s 0)) h)

pub moved_from : (l : List ℕ) (s t c : ℕ) → s < length l → (s ≡ t → ⊥) → get_or (moved l s t c) s 0 ≡ 0
unfolding moved
moved_from l s t c h d = get_or-set_other (set l s 0) t s c 0 d ∙ get_or-set_same l s 0 0 h

-- a code that is no king's; no pawn's
abbrev pub NoKing : ℕ → Type 0
NoKing c = (v : Side) → c ≡ code v King → ⊥

abbrev pub NoPawn : ℕ → Type 0
NoPawn c = (v : Side) → c ≡ code v Pawn → ⊥

pub no_king : (c : ℕ) → (c ≡ 6 → ⊥) → (c ≡ 12 → ⊥) → NoKing c
no_king c a b White e = a e
no_king c a b Black e = b e

pub no_pawn : (c : ℕ) → (c ≡ 1 → ⊥) → (c ≡ 7 → ⊥) → NoPawn c
no_pawn c a b White e = a e
no_pawn c a b Black e = b e

pub one_if_none : (c : ℕ) → NoKing c → (v : Side) → one_if (code v King) c ≡ 0
one_if_none c n v = cond-false _ 1 0 (ne_eqb _ _ (n v))

-- 64 codes with one king each and no pawn on the first or the last rank
pub record Sound (codes : List ℕ) : Type 0 where
  pub shown : Shown codes
  pub kings : (v : Side) → count (code v King) codes ≡ 1
  pub placed : Placed codes

pub shown_set : (l : List ℕ) (i c : ℕ) → Shown l → i < 64 → c ≤ 12 → Shown (set l i c)
shown_set l i c s h k = (
  length-set l i c ∙ s.0,
  λ j. elim (cases_eq j i) [
    | inl e ↦ let z : get_or (set l i c) j 0 ≡ c = ap (λ (j : ℕ). get_or (set l i c) j 0) e ∙ get_or-set_same l i c 0 (let y = s.0 in omega arith) in omega arith
    | inr d ↦ let z = get_or-set_other l i j c 0 d in let y = s.1 j in omega arith
  ],
)

pub placed_set : (l : List ℕ) (i c : ℕ) → i < length l → ((v : Side) → c ≡ code v Pawn → (8 ≤ i) × (i < 56)) → Placed l → Placed (set l i c)
placed_set l i c h ok old v j e = elim (cases_eq j i) [
  | inl q ↦ subst (λ (n : ℕ). (8 ≤ n) × (n < 56)) (sym q) (ok v (sym (ap (λ (j : ℕ). get_or (set l i c) j 0) q ∙ get_or-set_same l i c 0 h) ∙ e))
  | inr d ↦ old v j (sym (get_or-set_other l i j c 0 d) ∙ e)
]

-- an empty square or a rook put where no king stands
pub sound_set : (l : List ℕ) (i c : ℕ) → Sound l → i < 64 → NoKing (get_or l i 0) → (c ≡ 0) ⊎ ((v : Side) × (c ≡ code v Rook)) → Sound (set l i c)
sound_set l i c s h n o =
    let r = plain o in
    let long : i < length l = let z = s.shown.0 in omega arith in
    record {
      shown = shown_set l i c s.shown h r.0;
      kings = λ v.
          let a = count_set (code v King) l i c long in
          let b = one_if_none _ n v in
          let d = one_if_none c r.1 v in
          let e = s.kings v in
          omega arith;
      placed = placed_set l i c long (λ v e. absurd (r.2 v e)) s.placed;
    }
  where
    plain : (c ≡ 0) ⊎ ((v : Side) × (c ≡ code v Rook)) → (c ≤ 12) × NoKing c × NoPawn c
    plain (inl z) = (omega arith, no_king c (λ e. omega arith) (λ e. omega arith), no_pawn c (λ e. omega arith) (λ e. omega arith))
    plain (inr (White, z)) = (omega arith, no_king c (λ e. omega arith) (λ e. omega arith), no_pawn c (λ e. omega arith) (λ e. omega arith))
    plain (inr (Black, z)) = (omega arith, no_king c (λ e. omega arith) (λ e. omega arith), no_pawn c (λ e. omega arith) (λ e. omega arith))

-- a piece moved onto a square without a king: it stays what it is, or both what it was and what it is are no king
pub sound_moved : (l : List ℕ) (s t c : ℕ) → Sound l → s < 64 → t < 64 → (t ≡ s → ⊥) → NoKing (get_or l t 0) → c ≤ 12
    → ((v : Side) → one_if (code v King) c ≡ one_if (code v King) (get_or l s 0)) → ((v : Side) → c ≡ code v Pawn → (8 ≤ t) × (t < 56)) → Sound (moved l s t c)
unfolding moved
sound_moved l s t c o hs ht d n small same pawn =
    let z = o.shown.0 in
    let g = length-set l s 0 in
    let hs' : s < length l = omega arith in
    let ht' : t < length (set l s 0) = omega arith in
    record {
      shown = shown_set (set l s 0) t c (shown_set l s 0 o.shown hs (omega arith)) ht small;
      kings = λ v.
          let a = count_set (code v King) l s 0 hs' in
          let b = count_set (code v King) (set l s 0) t c ht' in
          let x : one_if (code v King) (get_or (set l s 0) t 0) ≡ 0 = ap (one_if (code v King)) (get_or-set_other l s t 0 0 d) ∙ one_if_none _ n v in
          let y = one_if_none 0 (no_king 0 (λ e. omega arith) (λ e. omega arith)) v in
          let w = o.kings v in
          let q = same v in
          omega arith;
      placed = placed_set (set l s 0) t c ht' pawn (placed_set l s 0 hs' (λ v e. absurd (no_pawn 0 (λ e. omega arith) (λ e. omega arith) v e)) o.placed);
    }
