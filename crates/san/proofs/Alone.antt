-- What is said of a legal move matches that move alone.
use Rattle.std.proofs.Common.{◌≡◌, ℕ, ◌≤◌, Bool, true, false, ◌⊎◌, sym, refl, ◌∙◌, subst, inl, inr, arith}
use Rattle.std.proofs.lemmas.Bool.{and_parts, and_from, eqb-true, eqb-false, eq-eqb, not-true, not-false, not_from_false, both_ways, cases_Bool, cond-true, cond-false, lt-ltb, le-ltb}
use Rattle.board.specs.declared.side.Side.{Side}
use Rattle.board.specs.declared.side.Side.TheVariants.{White, Black}
use Rattle.board.specs.declared.piece.Kind.TheVariants.{Pawn, King}
use Rattle.board.specs.Geometry.{file, rank, far}
use Rattle.board.specs.Piece.{code, holds}
use Rattle.rules.specs.Parts.{Parts}
use Rattle.rules.specs.Lawful.{king_home, lawful}
use Rattle.rules.specs.Move.{Move, mover, is_pawn_move, is_castling, is_capture}
use Rattle.rules.specs.Legal.{legal}
use Rattle.rules.proofs.LawfulParts.{Lawful, lawful_parts}
use Rattle.rules.proofs.LegalLaws.{Legal, legal_parts, legal_from, legal_promotion, legal_castling, of_side_range, goes_pawn, PawnWay, CastlingWay, kingside, queenside}
use Rattle.rules.proofs.PawnLaws.{one_pawn, pawn_captures}
use Rattle.san.specs.Said.{Said, kind, is_queenside, agrees, file_agrees, same, matches, Mark, unmarked, by_file, origin_mark, marked_file, marked_rank, said}
use Rattle.san.proofs.Marks.{same_move, same_kind, pawn_kind, kind_pawn, said_castling, going_said, said_going, pawn_mark, file_own, rank_own, piece_told}

-- what the text of a move that is not castling asks of another
record Agrees (p : Parts) (m n : Move) : Type 0 where
  plain : is_castling p n ≡ false
  kinds : kind p m ≡ kind p n
  targets : m.to ≡ n.to
  promotions : m.promotion ≡ n.promotion
  files : file_agrees (kind p m) (marked_file (origin_mark p m) (file m.from)) (file n.from) m.to ≡ true
  ranks : agrees (marked_rank (origin_mark p m) (rank m.from)) (rank n.from) ≡ true

going_agrees : (p : Parts) (m n : Move) → matches p (going_said p m) n ≡ true → Agrees p m n
unfolding matches
going_agrees p m n h =
    let a = and_parts _ _ h in
    let b = and_parts _ _ a.0 in
    let c = and_parts _ _ b.0 in
    let d = and_parts _ _ c.0 in
    let e = and_parts _ _ d.0 in
    record {
      plain = not-true _ e.0;
      kinds = eqb-true _ _ e.1;
      targets = eqb-true _ _ d.1;
      promotions = eqb-true _ _ c.1;
      files = b.1;
      ranks = a.1;
    }

-- a pawn's mark is its file where that is not the target's, else none
pawn_marked : (p : Parts) (m : Move) → Lawful p → Legal p m → is_pawn_move p m ≡ true
    → ((origin_mark p m ≡ by_file) × (file m.from ≡ file m.to → ⊥)) ⊎ ((origin_mark p m ≡ unmarked) × (file m.from ≡ file m.to))
pawn_marked p m law l y =
    let c = pawn_captures p m law l y in
    elim (cases_Bool (is_capture p m)) [
      | inl e ↦ inl (pawn_mark p m y ∙ cond-true _ _ _ e, eqb-false _ _ (not-true _ (sym c ∙ e)))
      | inr e ↦ inr (pawn_mark p m y ∙ cond-false _ _ _ e, eqb-true _ _ (not-false _ (sym c ∙ e)))
    ]

-- a pawn's text tells the pawn
pawn_told : (p : Parts) (m n : Move) → Lawful p → Legal p m → Legal p n → is_pawn_move p m ≡ true → Agrees p m n → m.from ≡ n.from
pawn_told p m n law lm ln y ag =
    let ym : mover p m ≡ code p.side Pawn = eqb-true _ _ y in
    let km : kind p m ≡ 1 = pawn_kind p.side _ ym in
    let yn : mover p n ≡ code p.side Pawn = kind_pawn p.side _ ln.own (sym ag.kinds ∙ km) in
    let wn = subst (λ (t : ℕ). PawnWay p.codes p.side p.en_passant n.from t) (sym ag.targets) (goes_pawn p n (eq-eqb _ _ yn) ln.way).1 in
    let shared : file m.from ≡ file n.from = elim (pawn_marked p m law lm y) [
      | inl x ↦ eqb-true _ _ (subst (λ (o : Mark). file_agrees (kind p m) (marked_file o (file m.from)) (file n.from) m.to ≡ true) x.0 ag.files)
      | inr x ↦
          let a = subst (λ (o : Mark). file_agrees (kind p m) (marked_file o (file m.from)) (file n.from) m.to ≡ true) x.0 ag.files in
          x.1 ∙ sym (eqb-true (file n.from) (file m.to) (sym (cond-true _ _ true (eq-eqb _ _ km)) ∙ a))
    ] in
    one_pawn p.codes p.side p.en_passant m.from n.from m.to (law.placed p.side _ ym).0 (law.placed p.side _ yn).0
    (λ e. let z = (of_side_range p.side (mover p m) lm.own).0 in omega arith)
    (λ e. let z = (of_side_range p.side (mover p n) ln.own).0 in omega arith)
    shared (goes_pawn p m y lm.way).1 wn

-- castling to one side is one move
pub home_far : (v : Side) → 4 ≤ king_home v
home_far White = omega arith
home_far Black = omega arith

one_castling : (p : Parts) (m n : Move) → m.from ≡ king_home p.side → n.from ≡ king_home p.side → is_queenside m ≡ is_queenside n
    → CastlingWay p m → CastlingWay p n → n.to ≡ m.to
one_castling p m n a b e (kingside x _) (kingside y _) = y ∙ sym x
one_castling p m n a b e (queenside x _) (queenside y _) = y ∙ sym x
one_castling p m n a b e (kingside x _) (queenside y _) =
    let h = home_far p.side in absurd (both_ways _ (le-ltb m.to m.from (omega arith)) (e ∙ lt-ltb n.to n.from (omega arith)))
one_castling p m n a b e (queenside x _) (kingside y _) =
    let h = home_far p.side in absurd (both_ways _ (e ∙ le-ltb n.to n.from (omega arith)) (lt-ltb m.to m.from (omega arith)))

pub castling_plain : (p : Parts) (m : Move) → Legal p m → is_castling p m ≡ true → m.promotion ≡ 0
castling_plain p m l e = elim (legal_promotion p m l) [
  | inl z ↦ z
  | inr (y, _, _) ↦ absurd (apart p.side (sym (eqb-true _ _ y) ∙ eqb-true _ _ (and_parts (holds p.codes p.side King m.from) (far (file m.from) (file m.to)) e).0))
]
  where
    apart : (v : Side) → code v Pawn ≡ code v King → ⊥
    apart White e = omega arith
    apart Black e = omega arith

pub same_true : (a b : Bool) → same a b ≡ true → a ≡ b
same_true true b h = sym h
same_true false b h = sym (not-true _ h)

same_own : (a : Bool) → same a a ≡ true
same_own true = refl
same_own false = refl

-- it matches no other legal move
pub said_alone : (p : Parts) (m n : Move) → lawful p ≡ true → legal p m ≡ true → legal p n ≡ true → matches p (said p m) n ≡ true → n ≡ m
unfolding matches
said_alone p m n law hm hn h =
    let w = lawful_parts p law in
    let lm = legal_parts p m hm in
    let ln = legal_parts p n hn in
    elim (cases_Bool (is_castling p m)) [
      | inl e ↦
          let a = and_parts (is_castling p n) (same (is_queenside m) (is_queenside n)) (subst (λ (s : Said). matches p s n ≡ true) (said_castling p m e) h) in
          let cm = legal_castling p m lm e in
          let cn = legal_castling p n ln a.0 in
          same_move n m (cn.0 ∙ sym cm.0) (one_castling p m n cm.0 cn.0 (same_true _ _ a.1) cm.1 cn.1)
          (castling_plain p n ln a.0 ∙ sym (castling_plain p m lm e))
      | inr e ↦
          let ag = going_agrees p m n (subst (λ (s : Said). matches p s n ≡ true) (said_going p m e) h) in
          let from : n.from ≡ m.from = elim (cases_Bool (is_pawn_move p m)) [
            | inl y ↦ sym (pawn_told p m n w lm ln y ag)
            | inr y ↦ piece_told p m n y hn (legal_from p n w.shown.0 ln) (same_kind p.side _ _ ln.own lm.own (sym ag.kinds))
                (sym ag.targets) (sym ag.promotions) ag.files ag.ranks
          ] in
          same_move n m from (sym ag.targets) (sym ag.promotions)
    ]

-- it matches that move
pub said_own : (p : Parts) (m : Move) → lawful p ≡ true → legal p m ≡ true → matches p (said p m) m ≡ true
unfolding matches
said_own p m law hm =
    let w = lawful_parts p law in
    let lm = legal_parts p m hm in
    elim (cases_Bool (is_castling p m)) [
      | inl e ↦ subst (λ (s : Said). matches p s m ≡ true) (sym (said_castling p m e)) (and_from _ _ e (same_own (is_queenside m)))
      | inr e ↦
          let pawn : kind p m ≡ 1 → (origin_mark p m ≡ by_file) ⊎ ((origin_mark p m ≡ unmarked) × (file m.from ≡ file m.to)) = λ k.
          elim (pawn_marked p m w lm (eq-eqb _ _ (kind_pawn p.side _ lm.own k))) [ inl x ↦ inl x.0 | inr x ↦ inr x ] in
          subst (λ (s : Said). matches p s m ≡ true) (sym (said_going p m e))
          (and_from _ _ (and_from _ _ (and_from _ _ (and_from _ _ (and_from _ _ (not_from_false _ e) (eq-eqb (kind p m) _ refl)) (eq-eqb m.to _ refl)) (eq-eqb m.promotion _ refl))
          (file_own _ _ _ _ pawn)) (rank_own (origin_mark p m) (rank m.from)))
    ]
