-- A castling right that a legal move leaves still has its king and its rook at home.
use Rattle.std.proofs.Common.{◌≡◌, ℕ, Bool, true, not, ◌&&◌, eqb, List, get_or, sym, refl, ap, ◌∙◌, arith}
use Rattle.std.proofs.lemmas.List.{get_or-set_other}
use Rattle.std.proofs.lemmas.Bool.{and_parts, and_from, eqb-false, not-true, or_parts}
use Rattle.board.specs.declared.side.Side.{Side}
use Rattle.board.specs.declared.side.Side.TheVariants.{White, Black}
use Rattle.board.specs.Geometry.{rank}
use Rattle.board.specs.Piece.{other}
use Rattle.rules.specs.declared.rights.Castling.{Castling}
use Rattle.rules.specs.Parts.{Parts}
use Rattle.rules.specs.Lawful.{king_home, kingside_home, queenside_home, right_stands, side_rights_stand, ahead, en_passant_rank}
use Rattle.rules.specs.Move.{Move}
use Rattle.rules.specs.After.{arrival, codes_after, touches, castling_after, rights_after}
use Rattle.rules.proofs.LawfulParts.{Lawful, rights_of, stands_parts, stands_from}
use Rattle.rules.proofs.LegalLaws.{Legal}
use Rattle.rules.proofs.Writes.{moved_other}
use Rattle.rules.proofs.MoveShapes.{gone, first_rank, homes, plain, taken, castled, shape}

-- a square of a side's first rank is as it was, if the move touches neither it nor the home of that side's king
pub edge_kept : (p : Parts) (m : Move) → Lawful p → Legal p m → (v : Side) (j : ℕ) → rank j ≡ first_rank v
    → (j ≡ m.from → ⊥) → (j ≡ m.to → ⊥) → (king_home v ≡ m.from → ⊥) → get_or (codes_after p m) j 0 ≡ get_or p.codes j 0
edge_kept p m law l v j r nf nt nk =
    let a : get_or (gone p m) j 0 ≡ get_or p.codes j 0 = moved_other p.codes m.from m.to (arrival p m) j nf nt in
    elim (shape p m law l) [
      | plain e ↦ ap (λ (b : List ℕ). get_or b j 0) e ∙ a
      | taken x e ↦ ap (λ (b : List ℕ). get_or b j 0) e ∙ get_or-set_other (gone p m) _ j 0 0 (inner p.side v x.on_rank r) ∙ a
      | castled s k f x e ↦
          let d : v ≡ p.side → ⊥ = λ q. nk (ap king_home q ∙ sym f) in
          ap (λ (b : List ℕ). get_or b j 0) e
          ∙ moved_other (gone p m) s k _ j (apart p.side v s d r x.rook_rank) (apart p.side v k d r x.free_rank) ∙ a
    ]
  where
    inner : (u v : Side) → rank m.to ≡ en_passant_rank u → rank j ≡ first_rank v → j ≡ ahead (other u) m.to → ⊥
    inner White White a r e = omega arith
    inner White Black a r e = omega arith
    inner Black White a r e = omega arith
    inner Black Black a r e = omega arith

    apart : (u v : Side) (i : ℕ) → (v ≡ u → ⊥) → rank j ≡ first_rank v → rank i ≡ first_rank u → j ≡ i → ⊥
    apart White White i n r q e = n refl
    apart White Black i n r q e = omega arith
    apart Black White i n r q e = omega arith
    apart Black Black i n r q e = n refl

untouched : (m : Move) (s : ℕ) → not (touches m s) ≡ true → (s ≡ m.from → ⊥) × (s ≡ m.to → ⊥)
untouched m s e =
    let a = or_parts (eqb m.from s) (eqb m.to s) (not-true _ e) in
    (λ q. eqb-false _ _ a.0 (sym q), λ q. eqb-false _ _ a.1 (sym q))

-- one right afterwards, and a side's two
right_kept : (p : Parts) (m : Move) → Lawful p → Legal p m → (v : Side) (right : Bool) (rook : ℕ) → rank rook ≡ first_rank v
    → right_stands p.codes v right rook ≡ true
    → right_stands (codes_after p m) v (right && not (touches m (king_home v)) && not (touches m rook)) rook ≡ true
right_kept p m law l v right rook r h = stands_from (codes_after p m) v _ rook (λ e.
    let a = and_parts (right && not (touches m (king_home v))) (not (touches m rook)) e in
    let b = and_parts right (not (touches m (king_home v))) a.0 in
    let was = stands_parts p.codes v right rook b.0 h in
    let k = untouched m (king_home v) b.1 in
    let t = untouched m rook a.1 in
    let h = homes v in (
      edge_kept p m law l v (king_home v) (omega arith) k.0 k.1 k.0 ∙ was.0,
      edge_kept p m law l v rook r t.0 t.1 k.0 ∙ was.1,
    ))

side_kept : (p : Parts) (m : Move) → Lawful p → Legal p m → (v : Side) (c : Castling) → side_rights_stand p.codes v c ≡ true
    → side_rights_stand (codes_after p m) v (castling_after v c m) ≡ true
side_kept p m law l v c h =
    let a = and_parts (right_stands p.codes v c.kingside (kingside_home v)) (right_stands p.codes v c.queenside (queenside_home v)) h in
    let o = homes v in
    and_from _ _ (right_kept p m law l v c.kingside (kingside_home v) (omega arith) a.0)
    (right_kept p m law l v c.queenside (queenside_home v) (omega arith) a.1)

pub rights_kept : (p : Parts) (m : Move) → Lawful p → Legal p m → (v : Side) → side_rights_stand (codes_after p m) v (rights_of v (rights_after p.rights m)) ≡ true
rights_kept p m law l White = side_kept p m law l White p.rights.white (law.homes White)
rights_kept p m law l Black = side_kept p m law l Black p.rights.black (law.homes Black)
