-- The board after a legal move: the piece has gone, and perhaps a pawn was taken en passant or a rook castled.
use Rattle.std.proofs.Common.{◌≡◌, ℕ, ◌+◌, ◌-◌, ◌*◌, ◌<◌, ◌≤◌, true, false, cond, List, get_or, set, sym, refl, ap, ◌∙◌, subst, inl, inr, arith}
use Rattle.std.proofs.lemmas.Bool.{and_parts, both_ways, cases_Bool, cond-true, cond-false, lt-ltb, le-ltb}
use Rattle.board.specs.declared.side.Side.{Side}
use Rattle.board.specs.declared.side.Side.TheVariants.{White, Black}
use Rattle.board.specs.declared.piece.Kind.TheVariants.{Pawn, Rook}
use Rattle.board.specs.Geometry.{rank}
use Rattle.board.specs.Piece.{other, code}
use Rattle.rules.specs.declared.rights.Castling.{Castling}
use Rattle.rules.specs.Parts.{Parts}
use Rattle.rules.specs.Lawful.{king_home, kingside_home, queenside_home, right_stands, side_rights_stand, ahead}
use Rattle.rules.specs.Move.{Move, is_castling, takes_en_passant}
use Rattle.rules.specs.After.{arrival, moved, rook_moved, codes_after}
use Rattle.rules.specs.Legal.{of_side, own_rights}
use Rattle.rules.proofs.LawfulParts.{Lawful, Crossed, crossed_parts, rights_of, stands_parts}
use Rattle.rules.proofs.LegalLaws.{Legal, kingside, queenside, kingside_parts, queenside_parts, legal_castling, piece_inside}
use Rattle.rules.proofs.Writes.{moved_other}

-- the codes after the moving piece alone has gone
abbrev pub gone : Parts → Move → List ℕ
gone p m = moved p.codes m.from m.to (arrival p m)

-- a side's first rank, counted from 0
abbrev pub first_rank : Side → ℕ
first_rank White = 0
first_rank Black = 7

-- where a side's king and rooks stand at home
pub record Homes (v : Side) : Type 0 where
  pub king : king_home v ≡ 8 * first_rank v + 4
  pub kingside : kingside_home v ≡ 8 * first_rank v + 7
  pub queenside : queenside_home v ≡ 8 * first_rank v
  pub inside : first_rank v ≤ 7

pub homes : (v : Side) → Homes v
homes White = omega arith
homes Black = omega arith

pub first_inside : (v : Side) (s : ℕ) → rank s ≡ first_rank v → s < 64
first_inside v s e = let h = (homes v).inside in omega arith

-- a rook goes from r to the empty square k on the first rank
pub record RookGoes (codes : List ℕ) (side : Side) (r k : ℕ) : Type 0 where
  pub rook : get_or codes r 0 ≡ code side Rook
  pub free : get_or codes k 0 ≡ 0
  pub rook_rank : rank r ≡ first_rank side
  pub free_rank : rank k ≡ first_rank side

own_stand : (p : Parts) → Lawful p → side_rights_stand p.codes p.side (own_rights p) ≡ true
own_stand p l = subst (λ (r : Castling). side_rights_stand p.codes p.side r ≡ true) (same p.side) (l.homes p.side)
  where
    same : (v : Side) → rights_of v p.rights ≡ (elim v [ White ↦ p.rights.white | Black ↦ p.rights.black ])
    same White = refl
    same Black = refl

-- the castling rook, after the king has gone
rook_goes : (codes : List ℕ) (side : Side) (from to c r k : ℕ) → get_or codes r 0 ≡ code side Rook → get_or codes k 0 ≡ 0
    → (rank r ≡ first_rank side) × (rank k ≡ first_rank side) × (r ≡ from → ⊥) × (r ≡ to → ⊥) × (k ≡ from → ⊥) × (k ≡ to → ⊥)
    → RookGoes (moved codes from to c) side r k
rook_goes codes side from to c r k a b (rr, kr, rf, rt, kf, kt) =
    record { rook = moved_other codes from to c r rf rt ∙ a; free = moved_other codes from to c k kf kt ∙ b; rook_rank = rr; free_rank = kr }

-- the shapes of the board afterwards
pub data Shape (p : Parts) (m : Move) : Type 0 where
  plain : codes_after p m ≡ gone p m → Shape p m
  taken : Crossed p.codes p.side m.to → codes_after p m ≡ set (gone p m) (ahead (other p.side) m.to) 0 → Shape p m
  castled : (r k : ℕ) → m.from ≡ king_home p.side → RookGoes (gone p m) p.side r k
      → codes_after p m ≡ moved (gone p m) r k (code p.side Rook) → Shape p m

pub shape : (p : Parts) (m : Move) → Lawful p → Legal p m → Shape p m
unfolding codes_after rook_moved
shape p m law l = elim (cases_Bool (is_castling p m)) [
  | inl c ↦
      let w = legal_castling p m l c in
      let f = w.0 in
      let stand = and_parts (right_stands p.codes p.side (own_rights p).kingside (kingside_home p.side)) (right_stands p.codes p.side (own_rights p).queenside (queenside_home p.side)) (own_stand p law) in
      let h = homes p.side in
      let e : codes_after p m ≡ rook_moved (gone p m) p.side m.from m.to = cond-true _ _ _ c in
      elim w.1 [
        | kingside t k ↦
            let x = kingside_parts _ _ _ k in
            castled (kingside_home p.side) (m.from + 1) f
            (rook_goes p.codes p.side m.from m.to (arrival p m) (kingside_home p.side) (m.from + 1)
            (stands_parts _ _ _ _ x.0 stand.0).1 (ap (λ (s : ℕ). get_or p.codes (s + 1) 0) f ∙ x.1) (omega arith))
            (e ∙ cond-true _ _ _ (lt-ltb m.from m.to (omega arith)))
        | queenside t k ↦
            let x = queenside_parts _ _ _ k in
            castled (queenside_home p.side) (m.from - 1) f
            (rook_goes p.codes p.side m.from m.to (arrival p m) (queenside_home p.side) (m.from - 1)
            (stands_parts _ _ _ _ x.0 stand.1).1 (ap (λ (s : ℕ). get_or p.codes (s - 1) 0) f ∙ x.1) (omega arith))
            (e ∙ cond-false _ _ _ (le-ltb m.from m.to (omega arith)))
      ]
  | inr c ↦
      let e : codes_after p m ≡ cond (takes_en_passant p m) (set (gone p m) (ahead (other p.side) m.to) 0) (gone p m) = cond-false _ _ _ c in
      elim (cases_Bool (takes_en_passant p m)) [
        | inl t ↦ taken (crossed_parts _ _ _ _ _ law.crossed (and_parts _ _ (and_parts _ _ t).0).1) (e ∙ cond-true _ _ _ t)
        | inr t ↦ plain (e ∙ cond-false _ _ _ t)
      ]
]

-- the square of a pawn taken en passant, after the capturing pawn has gone
pub record Victim (p : Parts) (m : Move) : Type 0 where
  pub inside : ahead (other p.side) m.to < 64
  pub held : get_or (gone p m) (ahead (other p.side) m.to) 0 ≡ code (other p.side) Pawn

pub victim : (p : Parts) (m : Move) → Lawful p → Legal p m → Crossed p.codes p.side m.to → Victim p m
victim p m law l x =
    let v = ahead (other p.side) m.to in
    let i : v < 64 = piece_inside p.codes v law.shown.0 (subst (λ (c : ℕ). 1 ≤ c) (sym x.pawn) (pawn_some (other p.side))) in
    let nt : v ≡ m.to → ⊥ = λ e. let z : code (other p.side) Pawn ≡ 0 = sym x.pawn ∙ ap (λ (s : ℕ). get_or p.codes s 0) e ∙ x.here in let y = pawn_some (other p.side) in omega arith in
    let nf : v ≡ m.from → ⊥ = λ e. both_ways _ (not_own p.side) (subst (λ (c : ℕ). of_side p.side c ≡ true) (sym (ap (λ (s : ℕ). get_or p.codes s 0) e) ∙ x.pawn) l.own) in
    record { inside = i; held = moved_other p.codes m.from m.to (arrival p m) v nf nt ∙ x.pawn }
  where
    pawn_some : (v : Side) → 1 ≤ code v Pawn
    pawn_some White = omega arith
    pawn_some Black = omega arith

    not_own : (v : Side) → of_side v (code (other v) Pawn) ≡ false
    not_own White = refl
    not_own Black = refl
