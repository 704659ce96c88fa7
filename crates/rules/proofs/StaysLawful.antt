-- A legal move from a lawful position leads to a lawful one.
use Rattle.std.proofs.Common.{◌≡◌, ℕ, ◌<◌, ◌≤◌, Bool, true, false, cond, eqb, List, length, get_or, Some, None, Option, sym, refl, ap, ◌∙◌, subst, inl, inr, arith}
use Rattle.std.proofs.lemmas.Bool.{and_parts, and_from, eqb-true, eq-eqb, ne_eqb, cases_Bool, cond-true, cond-false, or_left}
use Rattle.board.specs.declared.side.Side.{Side}
use Rattle.board.specs.declared.side.Side.TheVariants.{White, Black}
use Rattle.board.specs.declared.piece.Kind.TheVariants.{Pawn}
use Rattle.board.specs.Geometry.{rank, far}
use Rattle.board.specs.Piece.{other, code}
use Rattle.board.specs.Attack.{in_check}
use Rattle.rules.specs.Parts.{Parts}
use Rattle.rules.specs.Lawful.{king_home, ahead, en_passant_rank, en_passant_stands}
use Rattle.rules.specs.Move.{Move, mover, is_pawn_move, is_double_step}
use Rattle.rules.specs.After.{arrival, moved, codes_after, en_passant_after, counted_on, clock_after, number_after, after}
use Rattle.rules.specs.Legal.{pawn_home, promotes, StaysLawful}
use Rattle.rules.proofs.LawfulParts.{Lawful, lawful_parts, lawful_whole}
use Rattle.rules.proofs.LegalLaws.{Legal, legal_parts, legal_from, goes_pawn, other_other}
use Rattle.rules.proofs.PawnLaws.{Jump, two_ranks}
use Rattle.rules.proofs.Writes.{moved_other, moved_from, moved_to}
use Rattle.rules.proofs.MoveShapes.{gone, plain, taken, castled, shape}
use Rattle.rules.proofs.BoardKept.{sound_after}
use Rattle.rules.proofs.RightsKept.{rights_kept}

-- the squares of a double step
jump_squares : (side : Side) (from to : ℕ) → rank from ≡ pawn_home side → to ≡ ahead side (ahead side from)
    → (rank (ahead side from) ≡ en_passant_rank (other side)) × (ahead (other side) (ahead side from) ≡ from) × (ahead (other (other side)) (ahead side from) ≡ to)
    × (ahead side from ≡ from → ⊥) × (ahead side from ≡ to → ⊥) × (from ≡ to → ⊥)
jump_squares White from to r e = omega arith
jump_squares Black from to r e = omega arith

-- the law of the en passant square after a double step
crossed_jump : (codes : List ℕ) (side : Side) (from to c clock : ℕ) → length codes ≡ 64 → from < 64 → to < 64 → Jump codes side from to
    → c ≡ code side Pawn → clock ≡ 0 → en_passant_stands (moved codes from to c) (other side) (Some (ahead side from)) clock ≡ true
unfolding en_passant_stands
crossed_jump codes side from to c clock l hf ht j k z =
    let s = jump_squares side from to j.start j.lands in
    let b = moved codes from to c in
    let here : get_or b (ahead side from) 0 ≡ 0 = moved_other codes from to c (ahead side from) s.3 s.4 ∙ j.free in
    let behind : get_or b (ahead (other side) (ahead side from)) 0 ≡ 0 = ap (λ (i : ℕ). get_or b i 0) s.1 ∙ moved_from codes from to c (omega arith) s.5 in
    let pawn : get_or b (ahead (other (other side)) (ahead side from)) 0 ≡ code (other (other side)) Pawn =
    ap (λ (i : ℕ). get_or b i 0) s.2 ∙ moved_to codes from to c (omega arith) ∙ k ∙ ap (λ (v : Side). code v Pawn) (sym (other_other side)) in
    and_from _ _ (and_from _ _ (and_from _ _ (and_from _ _ (eq-eqb _ _ s.0) (eq-eqb _ _ here)) (eq-eqb _ _ behind)) (eq-eqb _ _ pawn)) (eq-eqb _ _ z)

-- a double step neither promotes, nor takes en passant, nor castles
jump_plain : (side : Side) (m : Move) → rank m.from ≡ pawn_home side → m.to ≡ ahead side (ahead side m.from) → promotes side m ≡ true → m.promotion ≡ 0
jump_plain White m r e h = eqb-true _ _ (sym (cond-false _ _ (eqb m.promotion 0) (ne_eqb (rank m.to) 7 (λ q. omega arith))) ∙ h)
jump_plain Black m r e h = eqb-true _ _ (sym (cond-false _ _ (eqb m.promotion 0) (ne_eqb (rank m.to) 0 (λ q. omega arith))) ∙ h)

jump_gone : (p : Parts) (m : Move) → Lawful p → Legal p m → Jump p.codes p.side m.from m.to → codes_after p m ≡ gone p m
jump_gone p m law l j = elim (shape p m law l) [
  | plain e ↦ e
  | taken x _ ↦ absurd (short p.side j.start j.lands x.on_rank)
  | castled _ _ f _ _ ↦ absurd (away p.side f j.start)
]
  where
    short : (v : Side) → rank m.from ≡ pawn_home v → m.to ≡ ahead v (ahead v m.from) → rank m.to ≡ en_passant_rank v → ⊥
    short White r e x = omega arith
    short Black r e x = omega arith

    away : (v : Side) → m.from ≡ king_home v → rank m.from ≡ pawn_home v → ⊥
    away White f r = omega arith
    away Black f r = omega arith

pub en_passant_kept : (p : Parts) (m : Move) → Lawful p → Legal p m → en_passant_stands (codes_after p m) (other p.side) (en_passant_after p m) (clock_after p m) ≡ true
unfolding en_passant_stands
en_passant_kept p m law l = elim (cases_Bool (is_double_step p m)) [
  | inr e ↦ subst (λ (o : Option ℕ). en_passant_stands (codes_after p m) (other p.side) o (clock_after p m) ≡ true) (sym (cond-false _ (Some (ahead p.side m.from)) None e)) refl
  | inl e ↦
      let a = and_parts (is_pawn_move p m) (far (rank m.from) (rank m.to)) e in
      let k : mover p m ≡ code p.side Pawn = eqb-true _ _ a.0 in
      let g = goes_pawn p m a.0 l.way in
      let j = two_ranks _ _ _ _ _ (law.placed p.side m.from k).0 a.1 g.1 in
      let q : m.promotion ≡ 0 = jump_plain p.side m j.start j.lands g.0 in
      let c : arrival p m ≡ code p.side Pawn = cond-true _ _ _ (eq-eqb _ _ q) ∙ k in
      let z : clock_after p m ≡ 0 = cond-true _ _ _ (or_left _ _ a.0) in
      subst (λ (o : Option ℕ). en_passant_stands (codes_after p m) (other p.side) o (clock_after p m) ≡ true) (sym (cond-true _ (Some (ahead p.side m.from)) None e))
      (subst (λ (b : List ℕ). en_passant_stands b (other p.side) (Some (ahead p.side m.from)) (clock_after p m) ≡ true) (sym (jump_gone p m law l j))
      (crossed_jump p.codes p.side m.from m.to (arrival p m) (clock_after p m) law.shown.0 (legal_from p m law.shown.0 l) l.inside j c z))
]

-- the counters
capped : (b : Bool) (n : ℕ) → cond b 0 (counted_on n) ≤ 9999
capped true n = omega arith
capped false n = omega arith

numbered : (v : Side) (n : ℕ) → 1 ≤ n → n ≤ 9999 → (1 ≤ number_after v n) × (number_after v n ≤ 9999)
numbered White n l h = (l, h)
numbered Black n l h = (omega arith, omega arith)

pub stays_lawful : StaysLawful
unfolding after
stays_lawful p m h k =
    let law = lawful_parts p h in
    let l = legal_parts p m k in
    let s = sound_after p m law l in
    let n = numbered p.side p.number law.number_least law.number_most in
    lawful_whole (after p m) (record {
      shown = s.shown;
      kings = s.kings;
      placed = s.placed;
      quiet = subst (λ (v : Side). in_check v (codes_after p m) ≡ false) (sym (other_other p.side)) l.safe;
      homes = rights_kept p m law l;
      crossed = en_passant_kept p m law l;
      clock_most = capped _ p.clock;
      number_least = n.0;
      number_most = n.1;
    })
