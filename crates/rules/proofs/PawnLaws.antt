-- How a pawn goes: one rank ahead or two, along its file unless it captures.
use Rattle.std.proofs.Common.{◌≡◌, ℕ, ◌+◌, ◌-◌, ◌<◌, ◌≤◌, true, false, not, ◌&&◌, eqb, leb, ◌⊎◌, List, get_or, Option, sym, ◌∙◌, subst, inl, inr, arith}
use Rattle.std.proofs.lemmas.Bool.{and_parts, and_from, and_right, eqb-true, eq-eqb, ne_eqb, leb-true, cond-true, or_left, or_right, or_from, or_cases, not_from_false, not_from_true}
use Rattle.board.specs.declared.side.Side.{Side}
use Rattle.board.specs.declared.side.Side.TheVariants.{White, Black}
use Rattle.board.specs.Geometry.{file, rank, near, far}
use Rattle.board.specs.Piece.{other}
use Rattle.board.specs.Attack.{pawn_attack}
use Rattle.rules.specs.Parts.{Parts}
use Rattle.rules.specs.Lawful.{ahead}
use Rattle.rules.specs.Move.{Move, is_pawn_move, is_square, is_capture}
use Rattle.rules.specs.Legal.{pawn_home, last_rank, promotes}
use Rattle.rules.proofs.LawfulParts.{Lawful}
use Rattle.rules.proofs.LegalLaws.{Legal, of_side_range, goes_pawn, PawnWay, steps, jumps, takes}

-- t is one rank ahead of s
abbrev pub OneAhead : Side → ℕ → ℕ → Type 0
OneAhead White s t = rank s + 1 ≡ rank t
OneAhead Black s t = rank t + 1 ≡ rank s

-- a double step
pub record Jump (codes : List ℕ) (side : Side) (from to : ℕ) : Type 0 where
  pub start : rank from ≡ pawn_home side
  pub lands : to ≡ ahead side (ahead side from)
  pub free : get_or codes (ahead side from) 0 ≡ 0

-- a pawn attacks one rank ahead, on another file
pub attack_ahead : (side : Side) (s t : ℕ) → pawn_attack side s t ≡ true → OneAhead side s t
unfolding pawn_attack
attack_ahead White s t h = eqb-true _ _ (and_parts (eqb (rank s + 1) (rank t)) _ h).0
attack_ahead Black s t h = eqb-true _ _ (and_parts (eqb (rank t + 1) (rank s)) _ h).0

pub attack_near : (side : Side) (s t : ℕ) → pawn_attack side s t ≡ true → near (file s) (file t) ≡ true
unfolding pawn_attack
attack_near White s t h = (and_parts (eqb (rank s + 1) (rank t)) _ h).1
attack_near Black s t h = (and_parts (eqb (rank t + 1) (rank s)) _ h).1

pub attack_file : (side : Side) (s t : ℕ) → pawn_attack side s t ≡ true → file s ≡ file t → ⊥
attack_file side s t h e = elim (or_cases (eqb (file s + 1) (file t)) (eqb (file t + 1) (file s)) (attack_near side s t h)) [
  | inl a ↦ let x = eqb-true _ _ a in omega arith
  | inr a ↦ let x = eqb-true _ _ a in omega arith
]

ahead_one : (side : Side) (s t : ℕ) → 8 ≤ s → t ≡ ahead side s → OneAhead side s t
ahead_one White s t h e = omega arith
ahead_one Black s t h e = omega arith

pub pawn_ranks : (codes : List ℕ) (side : Side) (en-passant : Option ℕ) (from to : ℕ) → 8 ≤ from → PawnWay codes side en-passant from to
    → OneAhead side from to ⊎ Jump codes side from to
pawn_ranks codes side en-passant from to h (steps e z) = inl (ahead_one side from to h e)
pawn_ranks codes side en-passant from to h (jumps r e z _) = inr (record { start = r; lands = e; free = z })
pawn_ranks codes side en-passant from to h (takes a _) = inl (attack_ahead side from to a)

-- a pawn's move by two ranks is a double step
pub two_ranks : (codes : List ℕ) (side : Side) (en-passant : Option ℕ) (from to : ℕ) → 8 ≤ from → far (rank from) (rank to) ≡ true
    → PawnWay codes side en-passant from to → Jump codes side from to
two_ranks codes side en-passant from to h f w = elim (pawn_ranks codes side en-passant from to h w) [
  | inr j ↦ j
  | inl o ↦ absurd (elim (or_cases (eqb (rank from + 2) (rank to)) (eqb (rank to + 2) (rank from)) f) [
    | inl a ↦ near_not_far side o (inl (eqb-true _ _ a))
    | inr a ↦ near_not_far side o (inr (eqb-true _ _ a))
  ])
]
  where
    near_not_far : (side : Side) → OneAhead side from to → (rank from + 2 ≡ rank to) ⊎ (rank to + 2 ≡ rank from) → ⊥
    near_not_far White o (inl a) = omega arith
    near_not_far White o (inr a) = omega arith
    near_not_far Black o (inl a) = omega arith
    near_not_far Black o (inr a) = omega arith

-- a pawn goes ahead
abbrev pub Onward : Side → ℕ → ℕ → Type 0
Onward White from to = from < to
Onward Black from to = to < from

pub pawn_onward : (codes : List ℕ) (side : Side) (en-passant : Option ℕ) (from to : ℕ) → 8 ≤ from → PawnWay codes side en-passant from to → Onward side from to
pawn_onward codes side en-passant from to h w = by side (pawn_ranks codes side en-passant from to h w)
  where
    by : (side : Side) → OneAhead side from to ⊎ Jump codes side from to → Onward side from to
    by White (inl o) = omega arith
    by White (inr j) = let e = j.lands in omega arith
    by Black (inl o) = omega arith
    by Black (inr j) = let e = j.lands in omega arith

-- it does not stay a pawn on the last rank
pub unpromoted : (side : Side) (m : Move) → promotes side m ≡ true → m.promotion ≡ 0 → rank m.to ≡ last_rank side → ⊥
unpromoted side m h z e =
    let a = and_parts (leb 2 m.promotion) (leb m.promotion 5) (sym (cond-true _ _ _ (eq-eqb _ _ e)) ∙ h) in
    let b = leb-true _ _ a.0 in
    omega arith

-- two pawns of one side on one file that go to one square are the same
pub one_pawn : (codes : List ℕ) (side : Side) (en-passant : Option ℕ) (s r t : ℕ) → 8 ≤ s → 8 ≤ r → (get_or codes s 0 ≡ 0 → ⊥) → (get_or codes r 0 ≡ 0 → ⊥) → file s ≡ file r
    → PawnWay codes side en-passant s t → PawnWay codes side en-passant r t → s ≡ r
one_pawn codes side en-passant s r t ls lr ns nr f v w = by side (pawn_ranks codes side en-passant s t ls v) (pawn_ranks codes side en-passant r t lr w)
  where
    by : (side : Side) → OneAhead side s t ⊎ Jump codes side s t → OneAhead side r t ⊎ Jump codes side r t → s ≡ r
    by White (inl o) (inl q) = omega arith
    by White (inl o) (inr j) = let e = j.lands in let x : r + 8 ≡ s = omega arith in absurd (ns (subst (λ (i : ℕ). get_or codes i 0 ≡ 0) x j.free))
    by White (inr j) (inl o) = let e = j.lands in let x : s + 8 ≡ r = omega arith in absurd (nr (subst (λ (i : ℕ). get_or codes i 0 ≡ 0) x j.free))
    by White (inr j) (inr k) = let a = j.lands in let b = k.lands in omega arith
    by Black (inl o) (inl q) = omega arith
    by Black (inl o) (inr j) = let e = j.lands in let g = j.start in let x : r - 8 ≡ s = omega arith in absurd (ns (subst (λ (i : ℕ). get_or codes i 0 ≡ 0) x j.free))
    by Black (inr j) (inl o) = let e = j.lands in let g = j.start in let x : s - 8 ≡ r = omega arith in absurd (nr (subst (λ (i : ℕ). get_or codes i 0 ≡ 0) x j.free))
    by Black (inr j) (inr k) = let a = j.lands in let b = k.lands in let g = j.start in let h = k.start in omega arith

-- a pawn's legal move captures exactly where it changes its file
pub pawn_captures : (p : Parts) (m : Move) → Lawful p → Legal p m → is_pawn_move p m ≡ true → is_capture p m ≡ not (eqb (file m.from) (file m.to))
pawn_captures p m law l y = elim (goes_pawn p m y l.way).1 [
  | steps e z ↦ still z (step_file p.side e)
  | jumps r e _ z ↦ still z (jump_file p.side r e)
  | takes a o ↦
      let d : not (eqb (file m.from) (file m.to)) ≡ true = not_from_false _ (ne_eqb _ _ (attack_file p.side m.from m.to a)) in
      elim o [
        | inl h ↦ or_left _ _ (not_from_false _ (ne_eqb (get_or p.codes m.to 0) 0 (λ z. let x = (of_side_range (other p.side) _ h).0 in omega arith))) ∙ sym d
        | inr s ↦ or_right (not (eqb (get_or p.codes m.to 0) 0)) _ (and_from _ _ (and_from _ _ y s) d) ∙ sym d
      ]
]
  where
    here : 8 ≤ m.from
    here = (law.placed p.side m.from (eqb-true _ _ y)).0

    still : get_or p.codes m.to 0 ≡ 0 → file m.from ≡ file m.to → is_capture p m ≡ not (eqb (file m.from) (file m.to))
    still z f =
        let d : not (eqb (file m.from) (file m.to)) ≡ false = not_from_true _ (eq-eqb _ _ f) in
        or_from _ _ (not_from_true _ (eq-eqb _ _ z)) (and_right (is_pawn_move p m && is_square p.en_passant m.to) _ d) ∙ sym d

    step_file : (v : Side) → m.to ≡ ahead v m.from → file m.from ≡ file m.to
    step_file White e = omega arith
    step_file Black e = let h = here in omega arith

    jump_file : (v : Side) → rank m.from ≡ pawn_home v → m.to ≡ ahead v (ahead v m.from) → file m.from ≡ file m.to
    jump_file White r e = omega arith
    jump_file Black r e = omega arith
