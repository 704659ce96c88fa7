-- Boards that differ on a few squares only: putting those, and the squares that a move changes.
use Rattle.std.proofs.Common.{◌≡◌, ℕ, ◌+◌, ◌-◌, ◌<◌, ◌≤◌, Bool, true, false, cond, ◌||◌, eqb, ltb, List, [], ◌∷◌, length, get_or, drop, set, sym, refl, ap, ◌∙◌, subst, inl, ⊎_elim, arith}
use Rattle.std.proofs.lemmas.List.{get_or_past, get_or-set_same, get_or-set_other, ext_get_or, drop_more, drop_all}
use Rattle.std.proofs.lemmas.Bool.{both_ways, cases_eq, cases_lt, cases_Bool, eq-eqb, ne_eqb, cond-true, cond-false, lt-ltb, le-ltb}
use Rattle.board.specs.declared.side.Side.{Side}
use Rattle.board.specs.declared.piece.Kind.TheVariants.{Rook}
use Rattle.board.specs.Piece.{other, code}
use Rattle.board.specs.Meaning.{can_put, put_list, Shown}
use Rattle.board.proofs.PutLaws.{put_done, put_refused}
use Rattle.rules.specs.Parts.{Parts}
use Rattle.rules.specs.Lawful.{kingside_home, queenside_home, ahead}
use Rattle.rules.specs.Move.{Move, is_castling, takes_en_passant}
use Rattle.rules.specs.After.{arrival, moved, rook_moved, codes_after}
use Rattle.rules.proofs.Writes.{moved_other}
use Rattle.moves.specs.Change.{among, SameBut}

-- not among more squares
off_first : (j s : ℕ) (ss : List ℕ) → among j (s ∷ ss) ≡ false → j ≡ s → ⊥
off_first j s ss f e = first (eqb j s) f (eq-eqb j s e)
  where
    first : (a : Bool) → (a || among j ss) ≡ false → a ≡ true → ⊥
    first true f e = both_ways true f refl
    first false f e = both_ways false refl e

off_rest : (j s : ℕ) (ss : List ℕ) → among j (s ∷ ss) ≡ false → among j ss ≡ false
off_rest j s ss f = rest (eqb j s) f
  where
    rest : (a : Bool) → (a || among j ss) ≡ false → among j ss ≡ false
    rest true f = absurd (both_ways true f refl)
    rest false f = f

off_both : (j s : ℕ) (ss : List ℕ) → (j ≡ s → ⊥) → among j ss ≡ false → among j (s ∷ ss) ≡ false
off_both j s ss d f = ap (λ b. b || among j ss) (ne_eqb j s d) ∙ f

-- a put changes no other square
put_other : (l : List ℕ) (s c j : ℕ) → (j ≡ s → ⊥) → get_or (put_list l s c) j 0 ≡ get_or l j 0
unfolding put_list
put_other l s c j d = ⊎_elim
    (λ (t : can_put s c ≡ true). ap (λ xs. get_or xs j 0) (cond-true _ (set l s c) l t) ∙ get_or-set_other l s j c 0 d)
    (λ (f : can_put s c ≡ false). ap (λ xs. get_or xs j 0) (cond-false _ (set l s c) l f))
    (cases_Bool (can_put s c))

module _ (l next : List ℕ) (s : ℕ) (long : length l ≡ 64) (shown : Shown next) where
  put_there : get_or (put_list l s (get_or next s 0)) s 0 ≡ get_or next s 0
  put_there = ⊎_elim
      (λ (h : s < 64). ap (λ xs. get_or xs s 0) (put_done l s (get_or next s 0) h (shown.1 s)).0 ∙ get_or-set_same l s (get_or next s 0) 0 (omega arith))
      (λ (h : 64 ≤ s).
      let size = shown.0 in
      ap (λ xs. get_or xs s 0) (put_refused l s (get_or next s 0) (inl (omega arith))).0 ∙ get_or_past l s 0 (omega arith) ∙ sym (get_or_past next s 0 (omega arith)))
      (cases_lt s 64)

  pub put_one : (ss : List ℕ) → SameBut (s ∷ ss) l next → SameBut ss (put_list l s (get_or next s 0)) next
  put_one ss same j f = ⊎_elim
      (λ (e : j ≡ s). rw e put_there)
      (λ (d : j ≡ s → ⊥). put_other l s (get_or next s 0) j d ∙ same j (off_both j s ss d f))
      (cases_eq j s)

-- one turn of the puts, and their end
pub put_turn : (squares l k next : List ℕ) (i : ℕ) → i < length squares → length l ≡ 64 → Shown next → k ≡ put_list l (get_or squares i 0) (get_or next (get_or squares i 0) 0)
    → SameBut (drop i squares) l next → SameBut (drop (i + 1) squares) k next
put_turn squares l k next i h long shown e same =
    let d : drop i squares ≡ get_or squares i 0 ∷ drop (i + 1) squares = drop_more squares i 0 h in
    subst (λ (x : List ℕ). SameBut (drop (i + 1) squares) x next) (sym e)
    (put_one l next (get_or squares i 0) long shown (drop (i + 1) squares) (subst (λ (x : List ℕ). SameBut x l next) d same))

pub put_end : (squares l next : List ℕ) (i : ℕ) → length squares ≤ i → length l ≡ 64 → Shown next → SameBut (drop i squares) l next → l ≡ next
put_end squares l next i h long shown same =
    let all : SameBut [] l next = subst (λ (x : List ℕ). SameBut x l next) (drop_all i squares h) same in
    ext_get_or 0 l next (long ∙ sym shown.0) (λ j k. all j refl)

-- off four squares
record Off (j a b c d : ℕ) : Type 0 where
  off_a : j ≡ a → ⊥
  off_b : j ≡ b → ⊥
  off_c : j ≡ c → ⊥
  off_d : j ≡ d → ⊥

off_four : (j a b c d : ℕ) → among j (a ∷ b ∷ c ∷ d ∷ []) ≡ false → Off j a b c d
off_four j a b c d f =
    let g = off_rest j a (b ∷ c ∷ d ∷ []) f in
    let h = off_rest j b (c ∷ d ∷ []) g in
    let i = off_rest j c (d ∷ []) h in
    record { off_a = off_first j a (b ∷ c ∷ d ∷ []) f; off_b = off_first j b (c ∷ d ∷ []) g; off_c = off_first j c (d ∷ []) h; off_d = off_first j d [] i }

-- the squares that a move changes
module _ (p : Parts) (m : Move) (from to : ℕ) (ef : from ≡ m.from) (et : to ≡ m.to) where
  abbrev gone : List ℕ
  gone = moved p.codes m.from m.to (arrival p m)

  kept : (j c d : ℕ) → Off j from to c d → get_or gone j 0 ≡ get_or p.codes j 0
  kept j c d o = moved_other p.codes m.from m.to (arrival p m) j (λ e. o.off_a (e ∙ sym ef)) (λ e. o.off_b (e ∙ sym et))

  module _ (castling : Bool) (ek : castling ≡ is_castling p m) where
    pub changed_short : castling ≡ true → from < to → (home : ℕ) → home ≡ kingside_home p.side
        → SameBut (from ∷ to ∷ home ∷ (from + 1) ∷ []) p.codes (codes_after p m)
    unfolding codes_after rook_moved
    changed_short t h home eh j f =
        let o = off_four j from to home (from + 1) f in
        let a : ltb m.from m.to ≡ true = lt-ltb m.from m.to (omega arith) in
        let r : codes_after p m ≡ moved gone (kingside_home p.side) (m.from + 1) (code p.side Rook) = cond-true _ _ _ (sym ek ∙ t) ∙ cond-true _ _ _ a in
        sym (ap (λ xs. get_or xs j 0) r
        ∙ moved_other gone (kingside_home p.side) (m.from + 1) (code p.side Rook) j (λ e. o.off_c (e ∙ sym eh)) (λ e. o.off_d (omega arith))
        ∙ kept j home (from + 1) o)

    pub changed_long : castling ≡ true → to ≤ from → (home beside : ℕ) → home ≡ queenside_home p.side → beside ≡ from - 1
        → SameBut (from ∷ to ∷ home ∷ beside ∷ []) p.codes (codes_after p m)
    unfolding codes_after rook_moved
    changed_long t h home beside eh eb j f =
        let o = off_four j from to home beside f in
        let a : ltb m.from m.to ≡ false = le-ltb m.from m.to (omega arith) in
        let r : codes_after p m ≡ moved gone (queenside_home p.side) (m.from - 1) (code p.side Rook) = cond-true _ _ _ (sym ek ∙ t) ∙ cond-false _ _ _ a in
        sym (ap (λ xs. get_or xs j 0) r
        ∙ moved_other gone (queenside_home p.side) (m.from - 1) (code p.side Rook) j (λ e. o.off_c (e ∙ sym eh)) (λ e. o.off_d (omega arith))
        ∙ kept j home beside o)

    pub changed_other : castling ≡ false → (enemy : Side) (beside : ℕ) → enemy ≡ other p.side → beside ≡ ahead enemy to
        → SameBut (from ∷ to ∷ beside ∷ beside ∷ []) p.codes (codes_after p m)
    unfolding codes_after
    changed_other t enemy beside ee eb j f =
        let o = off_four j from to beside beside f in
        let b : beside ≡ ahead (other p.side) m.to = cc in
        let r : codes_after p m ≡ cond (takes_en_passant p m) (set gone (ahead (other p.side) m.to) 0) gone = cond-false _ _ _ (sym ek ∙ t) in
        let k = kept j beside beside o in
        let w = get_or-set_other gone (ahead (other p.side) m.to) j 0 0 (λ e. o.off_c (e ∙ sym b)) in
        sym (ap (λ xs. get_or xs j 0) r ∙ ⊎_elim
        (λ (y : takes_en_passant p m ≡ true). ap (λ xs. get_or xs j 0) (cond-true _ _ _ y) ∙ w ∙ k)
        (λ (n : takes_en_passant p m ≡ false). ap (λ xs. get_or xs j 0) (cond-false _ _ _ n) ∙ k)
        (cases_Bool (takes_en_passant p m)))
