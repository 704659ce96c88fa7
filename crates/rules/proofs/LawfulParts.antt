-- What the laws say of a position, law by law.
use Rattle.std.proofs.Common.{◌≡◌, ℕ, ◌+◌, ◌-◌, ◌<◌, ◌≤◌, Bool, true, false, not, ◌&&◌, eqb, List, length, get_or, Some, None, Option, sym, refl, ap, ◌∙◌, subst, inl, inr, arith}
use Rattle.std.proofs.lemmas.List.{get_or_past}
use Rattle.std.proofs.lemmas.Bool.{and_parts, and_from, eqb-true, eq-eqb, leb-true, le-leb, not-true, not_from_false, or_left, or_right, or_from, ne_eqb, both_ways, cases_lt}
use Rattle.board.specs.declared.side.Side.{Side}
use Rattle.board.specs.declared.side.Side.TheVariants.{White, Black}
use Rattle.board.specs.declared.piece.Kind.TheVariants.{Pawn, Rook, King}
use Rattle.board.specs.Geometry.{rank}
use Rattle.board.specs.Piece.{other, code, holds}
use Rattle.board.specs.Attack.{in_check}
use Rattle.board.specs.Meaning.{Shown}
use Rattle.board.proofs.BelowLaws.{all_at, all_from}
use Rattle.rules.specs.declared.rights.Castling.{Castling}
use Rattle.rules.specs.declared.rights.Rights.{Rights}
use Rattle.rules.specs.Parts.{Parts}
use Rattle.rules.specs.Lawful.{count, one_king_each, is_pawn, edges_free, king_home, right_stands, side_rights_stand, rights_stand, ahead, en_passant_rank, en_passant_stands, counters_stand, lawful}
use Rattle.rules.specs.Move.{is_square}
use Rattle.rules.proofs.LawfulLaws.{board_shown, shown_board}

-- pawns stand between the second rank and the seventh
abbrev pub Placed : List ℕ → Type 0
Placed codes = (v : Side) (s : ℕ) → get_or codes s 0 ≡ code v Pawn → (8 ≤ s) × (s < 56)

pawn_code : (v : Side) (c : ℕ) → c ≡ code v Pawn → is_pawn c ≡ true
pawn_code White c e = or_left _ _ (eq-eqb _ _ e)
pawn_code Black c e = or_right (eqb c 1) _ (eq-eqb _ _ e)

pub edges_placed : (codes : List ℕ) → length codes ≡ 64 → edges_free codes ≡ true → Placed codes
unfolding edges_free
edges_placed codes l h v s e =
    let at : (f : ℕ) → f < 8 → (is_pawn (get_or codes f 0) ≡ false) × (is_pawn (get_or codes (56 + f) 0) ≡ false) =
    λ f k. let a = and_parts _ _ (all_at 8 (λ f. not (is_pawn (get_or codes f 0)) && not (is_pawn (get_or codes (56 + f) 0))) h f k) in
    (not-true _ a.0, not-true _ a.1) in
    let low : 8 ≤ s = elim (cases_lt s 8) [ inr k ↦ k | inl k ↦ absurd (both_ways _ (at s k).0 (pawn_code v _ e)) ] in
    let high : s < 56 = elim (cases_lt s 56) [
      | inl k ↦ k
      | inr k ↦ elim (cases_lt s 64) [
        | inl b ↦
            let q : s ≡ 56 + (s - 56) = omega arith in
            absurd (both_ways _ (at (s - 56) (omega arith)).1 (pawn_code v _ (ap (λ (i : ℕ). get_or codes i 0) (sym q) ∙ e)))
        | inr b ↦ absurd (no_pawn v (sym (get_or_past codes s 0 (omega arith)) ∙ e))
      ]
    ] in
    (low, high)
  where
    no_pawn : (v : Side) → 0 ≡ code v Pawn → ⊥
    no_pawn White e = omega arith
    no_pawn Black e = omega arith

pub placed_edges : (codes : List ℕ) → Placed codes → edges_free codes ≡ true
unfolding edges_free
placed_edges codes h =
    all_from 8 _ (λ f k. and_from _ _ (none f (λ g. omega arith)) (none (56 + f) (λ g. omega arith)))
  where
    none : (s : ℕ) → ((8 ≤ s) × (s < 56) → ⊥) → not (is_pawn (get_or codes s 0)) ≡ true
    none s out = not_from_false _ (or_from _ _ (ne_eqb _ _ (λ e. out (h White s e))) (ne_eqb _ _ (λ e. out (h Black s e))))

pub kings_at : (codes : List ℕ) → one_king_each codes ≡ true → (v : Side) → count (code v King) codes ≡ 1
unfolding one_king_each
kings_at codes h White = eqb-true _ _ (and_parts _ _ h).0
kings_at codes h Black = eqb-true _ _ (and_parts _ _ h).1

-- the castling rights of a side
abbrev pub rights_of : Side → Rights → Castling
rights_of White r = r.white
rights_of Black r = r.black

pub rights_at : (codes : List ℕ) (r : Rights) → rights_stand codes r ≡ true → (v : Side) → side_rights_stand codes v (rights_of v r) ≡ true
unfolding rights_stand
rights_at codes r h White = (and_parts _ _ h).0
rights_at codes r h Black = (and_parts _ _ h).1

-- a right that stands has its king and its rook at home
pub stands_parts : (codes : List ℕ) (side : Side) (right : Bool) (rook : ℕ) → right ≡ true → right_stands codes side right rook ≡ true
    → (get_or codes (king_home side) 0 ≡ code side King) × (get_or codes rook 0 ≡ code side Rook)
stands_parts codes side true rook e h = let a = and_parts (holds codes side King (king_home side)) (holds codes side Rook rook) h in (eqb-true _ _ a.0, eqb-true _ _ a.1)
stands_parts codes side false rook e h = absurd (both_ways false refl e)

pub stands_from : (codes : List ℕ) (side : Side) (right : Bool) (rook : ℕ)
    → (right ≡ true → (get_or codes (king_home side) 0 ≡ code side King) × (get_or codes rook 0 ≡ code side Rook)) → right_stands codes side right rook ≡ true
stands_from codes side true rook h = let a = h refl in and_from _ _ (eq-eqb _ _ a.0) (eq-eqb _ _ a.1)
stands_from codes side false rook h = refl

-- what the law says of the en passant square
pub record Crossed (codes : List ℕ) (side : Side) (e : ℕ) : Type 0 where
  pub on_rank : rank e ≡ en_passant_rank side
  pub here : get_or codes e 0 ≡ 0
  pub behind : get_or codes (ahead side e) 0 ≡ 0
  pub pawn : get_or codes (ahead (other side) e) 0 ≡ code (other side) Pawn

pub crossed_parts : (codes : List ℕ) (side : Side) (o : Option ℕ) (clock e : ℕ) → en_passant_stands codes side o clock ≡ true → is_square o e ≡ true → Crossed codes side e
unfolding en_passant_stands
crossed_parts codes side None clock e h i = absurd (both_ways false refl i)
crossed_parts codes side (Some d) clock e h i =
    let a = and_parts _ _ (and_parts _ _ h).0 in
    let b = and_parts _ _ a.0 in
    let c = and_parts _ _ b.0 in
    subst (λ (e : ℕ). Crossed codes side e) (eqb-true d e i)
    (record { on_rank = eqb-true _ _ c.0; here = eqb-true _ _ c.1; behind = eqb-true _ _ b.1; pawn = eqb-true _ _ a.1 })

-- the laws, one by one
pub record Lawful (p : Parts) : Type 0 where
  pub shown : Shown p.codes
  pub kings : (v : Side) → count (code v King) p.codes ≡ 1
  pub placed : Placed p.codes
  pub quiet : in_check (other p.side) p.codes ≡ false
  pub homes : (v : Side) → side_rights_stand p.codes v (rights_of v p.rights) ≡ true
  pub crossed : en_passant_stands p.codes p.side p.en_passant p.clock ≡ true
  pub clock_most : p.clock ≤ 9999
  pub number_least : 1 ≤ p.number
  pub number_most : p.number ≤ 9999

pub lawful_parts : (p : Parts) → lawful p ≡ true → Lawful p
unfolding lawful counters_stand
lawful_parts p h =
    let a = and_parts _ _ h in
    let b = and_parts _ _ a.1 in
    let c = and_parts _ _ b.1 in
    let d = and_parts _ _ c.1 in
    let e = and_parts _ _ d.1 in
    let f = and_parts _ _ e.1 in
    let g = and_parts _ _ (and_parts _ _ f.1).0 in
    let i = and_parts _ _ g.0 in
    let s = board_shown _ a.0 in
    record {
      shown = s;
      kings = kings_at _ b.0;
      placed = edges_placed _ s.0 c.0;
      quiet = not-true _ d.0;
      homes = rights_at _ _ e.0;
      crossed = f.0;
      clock_most = leb-true _ _ i.0;
      number_least = leb-true _ _ i.1;
      number_most = leb-true _ _ g.1;
    }

pub lawful_whole : (p : Parts) → Lawful p → lawful p ≡ true
unfolding lawful one_king_each rights_stand counters_stand
lawful_whole p l =
    and_from _ _ (shown_board _ l.shown)
    (and_from _ _ (and_from _ _ (eq-eqb _ _ (l.kings White)) (eq-eqb _ _ (l.kings Black)))
    (and_from _ _ (placed_edges _ l.placed)
    (and_from _ _ (not_from_false _ l.quiet)
    (and_from _ _ (and_from _ _ (l.homes White) (l.homes Black))
    (and_from _ _ l.crossed
    (and_from _ _ (and_from _ _ (and_from _ _ (le-leb _ _ l.clock_most) (le-leb _ _ l.number_least)) (le-leb _ _ l.number_most)) refl))))))
