-- A legal move keeps 64 codes, one king each, and pawns off the first and the last rank.
use Rattle.std.proofs.Common.{◌≡◌, ℕ, ◌+◌, ◌<◌, ◌≤◌, true, leb, List, get_or, set, sym, refl, ap, ◌∙◌, subst, inl, inr, arith}
use Rattle.std.proofs.lemmas.List.{get_or-set_other}
use Rattle.std.proofs.lemmas.Bool.{and_parts, eqb-true, eq-eqb, both_ways, cond-true, cond-false, ne_eqb, leb-true}
use Rattle.board.specs.declared.side.Side.{Side}
use Rattle.board.specs.declared.side.Side.TheVariants.{White, Black}
use Rattle.board.specs.declared.piece.Kind.TheVariants.{Pawn, Rook, King}
use Rattle.board.specs.Geometry.{rank}
use Rattle.board.specs.Piece.{other, code}
use Rattle.board.specs.Attack.{attacks}
use Rattle.board.proofs.AttackLaws.{decides_attacks, decides_from, check_found}
use Rattle.rules.specs.Parts.{Parts}
use Rattle.rules.specs.Move.{Move, mover}
use Rattle.rules.specs.After.{coloured, arrival, moved, codes_after}
use Rattle.rules.specs.Legal.{of_side, last_rank}
use Rattle.rules.proofs.LawfulParts.{Lawful}
use Rattle.rules.proofs.LegalLaws.{Legal, legal_from, legal_apart, legal_promotion, legal_hit, goes_pawn, other_other, side_cases}
use Rattle.rules.proofs.PawnLaws.{Onward, pawn_onward, unpromoted}
use Rattle.rules.proofs.Writes.{one_if, one_if_none, NoKing, no_king, NoPawn, no_pawn, Sound, sound_set, sound_moved}
use Rattle.rules.proofs.MoveShapes.{gone, first_inside, plain, taken, castled, shape, victim}

-- no legal move takes a king
pub target_king : (p : Parts) (m : Move) → Lawful p → Legal p m → NoKing (get_or p.codes m.to 0)
target_king p m law l v e = elim (side_cases p.side v) [
  | inl q ↦ both_ways _ l.free (subst (λ (c : ℕ). of_side p.side c ≡ true) (sym (e ∙ ap (λ (v : Side). code v King) q)) (own_king p.side))
  | inr q ↦ elim (legal_hit p m l) [
    | inl z ↦ some_king v (sym e ∙ z)
    | inr h ↦
        let a : attacks p.side p.codes m.to ≡ true =
        (decides_attacks p.side p.codes m.to).1 (l.inside, (m.from, legal_from p m law.shown.0 l, (decides_from _ _ _ _).0 h)) in
        both_ways _ law.quiet (check_found (other p.side) p.codes m.to l.inside (e ∙ ap (λ (v : Side). code v King) q)
        (subst (λ (v : Side). attacks v p.codes m.to ≡ true) (sym (other_other p.side)) a))
  ]
]
  where
    own_king : (v : Side) → of_side v (code v King) ≡ true
    own_king White = refl
    own_king Black = refl

    some_king : (v : Side) → code v King ≡ 0 → ⊥
    some_king White z = omega arith
    some_king Black z = omega arith

-- what arrives: the mover, or what a pawn promotes to
pub data Arrives (p : Parts) (m : Move) : Type 0 where
  same : m.promotion ≡ 0 → arrival p m ≡ mover p m → Arrives p m
  promoted : mover p m ≡ code p.side Pawn → 2 ≤ m.promotion → m.promotion ≤ 5 → arrival p m ≡ coloured p.side m.promotion → Arrives p m

pub arrives : (p : Parts) (m : Move) → Legal p m → Arrives p m
arrives p m l = elim (legal_promotion p m l) [
  | inl e ↦ same e (cond-true _ _ _ (eq-eqb _ _ e))
  | inr (y, a, b) ↦ promoted (eqb-true _ _ y) a b (cond-false _ _ _ (ne_eqb m.promotion 0 (λ e. omega arith)))
]

-- a kind that a pawn promotes to
promoted_code : (v : Side) (q : ℕ) → 2 ≤ q → q ≤ 5 → (coloured v q ≤ 12) × NoKing (coloured v q) × NoPawn (coloured v q)
promoted_code White q a b = (omega arith, no_king q (λ e. omega arith) (λ e. omega arith), no_pawn q (λ e. omega arith) (λ e. omega arith))
promoted_code Black q a b = (omega arith, no_king (q + 6) (λ e. omega arith) (λ e. omega arith), no_pawn (q + 6) (λ e. omega arith) (λ e. omega arith))

pub pawn_no_king : (v : Side) → NoKing (code v Pawn)
pawn_no_king White = no_king 1 (λ e. omega arith) (λ e. omega arith)
pawn_no_king Black = no_king 7 (λ e. omega arith) (λ e. omega arith)

rook_no_king : (v : Side) → NoKing (code v Rook)
rook_no_king White = no_king 4 (λ e. omega arith) (λ e. omega arith)
rook_no_king Black = no_king 10 (λ e. omega arith) (λ e. omega arith)

arrival_small : (p : Parts) (m : Move) → Lawful p → Legal p m → arrival p m ≤ 12
arrival_small p m law l = elim (arrives p m l) [
  | same _ e ↦ subst (λ (c : ℕ). c ≤ 12) (sym e) (law.shown.1 m.from)
  | promoted _ a b e ↦ subst (λ (c : ℕ). c ≤ 12) (sym e) (promoted_code p.side m.promotion a b).0
]

-- a king arrives exactly where one left
arrival_king : (p : Parts) (m : Move) → Legal p m → (v : Side) → one_if (code v King) (arrival p m) ≡ one_if (code v King) (mover p m)
arrival_king p m l v = elim (arrives p m l) [
  | same _ e ↦ ap (one_if (code v King)) e
  | promoted k a b e ↦
      ap (one_if (code v King)) e ∙ one_if_none _ (promoted_code p.side m.promotion a b).1 v
      ∙ sym (ap (one_if (code v King)) k ∙ one_if_none _ (pawn_no_king p.side) v)
]

-- a pawn that does not promote stays off the last rank
pawn_arrives : (side : Side) (from to : ℕ) → 8 ≤ from → from < 56 → to < 64 → Onward side from to → (rank to ≡ last_rank side → ⊥) → (8 ≤ to) × (to < 56)
pawn_arrives White from to a b c o n = (omega arith, omega arith)
pawn_arrives Black from to a b c o n = (omega arith, omega arith)

-- an own pawn is of the own colour
own_pawn : (u v : Side) (c : ℕ) → of_side u c ≡ true → c ≡ code v Pawn → c ≡ code u Pawn
own_pawn White White c h e = e
own_pawn White Black c h e = let a = leb-true _ _ (and_parts (leb 1 c) (leb c 6) h).1 in absurd (omega arith)
own_pawn Black White c h e = let a = leb-true _ _ (and_parts (leb 7 c) (leb c 12) h).0 in absurd (omega arith)
own_pawn Black Black c h e = e

arrival_pawn : (p : Parts) (m : Move) → Lawful p → Legal p m → (v : Side) → arrival p m ≡ code v Pawn → (8 ≤ m.to) × (m.to < 56)
arrival_pawn p m law l v h = elim (arrives p m l) [
  | same z e ↦
      let k : mover p m ≡ code p.side Pawn = own_pawn p.side v _ l.own (sym e ∙ h) in
      let r = law.placed p.side m.from k in
      let g = goes_pawn p m (eq-eqb _ _ k) l.way in
      pawn_arrives p.side m.from m.to r.0 r.1 l.inside (pawn_onward _ _ _ _ _ r.0 g.1) (unpromoted p.side m g.0 z)
  | promoted k a b e ↦ absurd ((promoted_code p.side m.promotion a b).2 v (sym e ∙ h))
]

-- the board after the piece has gone, and after the move
pub sound_gone : (p : Parts) (m : Move) → Lawful p → Legal p m → Sound (gone p m)
sound_gone p m law l =
    sound_moved p.codes m.from m.to (arrival p m) (record { shown = law.shown; kings = law.kings; placed = law.placed })
    (legal_from p m law.shown.0 l) l.inside (legal_apart p m l) (target_king p m law l) (arrival_small p m law l) (arrival_king p m l) (arrival_pawn p m law l)

pub sound_after : (p : Parts) (m : Move) → Lawful p → Legal p m → Sound (codes_after p m)
unfolding moved
sound_after p m law l =
    let g = sound_gone p m law l in
    elim (shape p m law l) [
      | plain e ↦ subst (λ (b : List ℕ). Sound b) (sym e) g
      | taken x e ↦
          let y = victim p m law l x in
          subst (λ (b : List ℕ). Sound b) (sym e)
          (sound_set (gone p m) _ 0 g y.inside (subst (λ (c : ℕ). NoKing c) (sym y.held) (pawn_no_king (other p.side))) (inl refl))
      | castled r k _ x e ↦
          let a = sound_set (gone p m) r 0 g (first_inside p.side r x.rook_rank) (subst (λ (c : ℕ). NoKing c) (sym x.rook) (rook_no_king p.side)) (inl refl) in
          let d : k ≡ r → ⊥ = λ q. apart p.side (sym x.rook ∙ ap (λ (s : ℕ). get_or (gone p m) s 0) (sym q) ∙ x.free) in
          let f : get_or (set (gone p m) r 0) k 0 ≡ 0 = get_or-set_other (gone p m) r k 0 0 d ∙ x.free in
          subst (λ (b : List ℕ). Sound b) (sym e)
          (sound_set (set (gone p m) r 0) k (code p.side Rook) a (first_inside p.side k x.free_rank)
          (subst (λ (c : ℕ). NoKing c) (sym f) (no_king 0 (λ e. omega arith) (λ e. omega arith))) (inr (p.side, refl)))
    ]
  where
    apart : (v : Side) → code v Rook ≡ 0 → ⊥
    apart White e = omega arith
    apart Black e = omega arith
