-- What a legal move is, part by part.
use Rattle.std.proofs.Common.{◌≡◌, ℕ, ◌+◌, ◌-◌, ◌<◌, ◌≤◌, Bool, true, false, not, ◌&&◌, ◌||◌, eqb, ltb, leb, ◌⊎◌, List, length, get_or, Option, sym, refl, ap, ◌∙◌, subst, inl, inr, arith}
use Rattle.std.proofs.lemmas.List.{get_or_past}
use Rattle.std.proofs.lemmas.Bool.{and_parts, eqb-true, leb-true, ltb-true, not-true, or_cases, both_ways, cases_lt, cases_Bool, cond-true, cond-false}
use Rattle.std.proofs.lemmas.Bool.Decides.{nat_tests}
use Rattle.board.specs.declared.side.Side.{Side}
use Rattle.board.specs.declared.side.Side.TheVariants.{White, Black}
use Rattle.board.specs.declared.piece.Kind.TheVariants.{Pawn, King}
use Rattle.board.specs.Geometry.{file, rank, far, king_step}
use Rattle.board.specs.Piece.{other, code, holds}
use Rattle.board.specs.Attack.{pawn_attack, attacks_from, in_check}
use Rattle.board.proofs.BelowLaws.{then_parts}
use Rattle.board.proofs.AttackLaws.{decides_from, king_attacks}
use Rattle.rules.specs.Parts.{Parts}
use Rattle.rules.specs.Lawful.{king_home, ahead}
use Rattle.rules.specs.Move.{Move, mover, is_pawn_move, is_castling, is_square}
use Rattle.rules.specs.After.{codes_after}
use Rattle.rules.specs.Legal.{of_side, pawn_home, last_rank, empty, pawn_advance, pawn_capture, promotes, castles_kingside, castles_queenside, own_rights, castles, goes, legal}

-- sides and their codes
pub other_other : (v : Side) → other (other v) ≡ v
other_other White = refl
other_other Black = refl

pub side_cases : (u v : Side) → (v ≡ u) ⊎ (v ≡ other u)
side_cases White White = inl refl
side_cases White Black = inr refl
side_cases Black White = inr refl
side_cases Black Black = inl refl

pub of_side_range : (v : Side) (c : ℕ) → of_side v c ≡ true → (1 ≤ c) × (c ≤ 12)
of_side_range White c h = let a = and_parts (leb 1 c) (leb c 6) h in let x = leb-true 1 c a.0 in let y = leb-true c 6 a.1 in (omega arith, omega arith)
of_side_range Black c h = let a = and_parts (leb 7 c) (leb c 12) h in let x = leb-true 7 c a.0 in let y = leb-true c 12 a.1 in (omega arith, omega arith)

-- what a legal move has
pub record Legal (p : Parts) (m : Move) : Type 0 where
  pub inside : m.to < 64
  pub own : of_side p.side (mover p m) ≡ true
  pub free : of_side p.side (get_or p.codes m.to 0) ≡ false
  pub way : goes p m ≡ true
  pub safe : in_check p.side (codes_after p m) ≡ false

pub legal_parts : (p : Parts) (m : Move) → legal p m ≡ true → Legal p m
unfolding legal
legal_parts p m h =
    let a = then_parts (ltb m.to 64 && of_side p.side (mover p m) && not (of_side p.side (get_or p.codes m.to 0))) _ h in
    let b = and_parts (ltb m.to 64 && of_side p.side (mover p m)) (not (of_side p.side (get_or p.codes m.to 0))) a.0 in
    let c = and_parts (ltb m.to 64) (of_side p.side (mover p m)) b.0 in
    let d = then_parts (goes p m) _ a.1 in
    record { inside = ltb-true _ _ c.0; own = c.1; free = not-true _ b.1; way = d.0; safe = not-true _ d.1 }

-- a piece stands on the board
pub piece_inside : (codes : List ℕ) (s : ℕ) → length codes ≡ 64 → 1 ≤ get_or codes s 0 → s < 64
piece_inside codes s l h = elim (cases_lt s 64) [ inl k ↦ k | inr k ↦ let z = get_or_past codes s 0 (omega arith) in absurd (omega arith) ]

pub legal_from : (p : Parts) (m : Move) → length p.codes ≡ 64 → Legal p m → m.from < 64
legal_from p m l h = piece_inside p.codes m.from l (of_side_range p.side _ h.own).0

-- it goes to another square
pub legal_apart : (p : Parts) (m : Move) → Legal p m → m.to ≡ m.from → ⊥
legal_apart p m h e = both_ways _ h.free (subst (λ (s : ℕ). of_side p.side (get_or p.codes s 0) ≡ true) (sym e) h.own)

-- the ways of a pawn
pub data PawnWay (codes : List ℕ) (side : Side) (en-passant : Option ℕ) (from to : ℕ) : Type 0 where
  steps : to ≡ ahead side from → get_or codes to 0 ≡ 0 → PawnWay codes side en-passant from to
  jumps : rank from ≡ pawn_home side → to ≡ ahead side (ahead side from) → get_or codes (ahead side from) 0 ≡ 0 → get_or codes to 0 ≡ 0 → PawnWay codes side en-passant from to
  takes : pawn_attack side from to ≡ true → (of_side (other side) (get_or codes to 0) ≡ true) ⊎ (is_square en-passant to ≡ true) → PawnWay codes side en-passant from to

pub pawn_ways : (codes : List ℕ) (side : Side) (en-passant : Option ℕ) (from to : ℕ)
    → (pawn_advance codes side from to || pawn_capture codes side en-passant from to) ≡ true → PawnWay codes side en-passant from to
unfolding pawn_advance pawn_capture
pawn_ways codes side en-passant from to h = elim (or_cases _ _ h) [
  | inl a ↦ elim (or_cases _ _ a) [
    | inl b ↦ let c = and_parts _ _ b in steps (eqb-true _ _ c.0) (eqb-true _ _ c.1)
    | inr b ↦
        let c = and_parts _ _ b in
        let d = and_parts _ _ c.0 in
        let e = and_parts _ _ d.0 in
        jumps (eqb-true _ _ e.0) (eqb-true _ _ e.1) (eqb-true _ _ d.1) (eqb-true _ _ c.1)
  ]
  | inr a ↦ let c = and_parts _ _ a in takes c.0 (or_cases _ _ c.1)
]

-- how a pawn goes, and how another piece goes
pub goes_pawn : (p : Parts) (m : Move) → is_pawn_move p m ≡ true → goes p m ≡ true
    → (promotes p.side m ≡ true) × PawnWay p.codes p.side p.en_passant m.from m.to
unfolding goes
goes_pawn p m e h =
    let a = and_parts (promotes p.side m) _ (taken (is_pawn_move p m) _ _ e h) in
    (a.0, pawn_ways _ _ _ _ _ a.1)
  where
    taken : (b x y : Bool) → b ≡ true → (elim b [ true ↦ x | false ↦ y ]) ≡ true → x ≡ true
    taken true x y e h = h
    taken false x y e h = absurd (both_ways false refl e)

pub goes_other : (p : Parts) (m : Move) → is_pawn_move p m ≡ false → goes p m ≡ true
    → (m.promotion ≡ 0) × ((attacks_from p.side p.codes m.from m.to ≡ true) ⊎ (castles p m ≡ true))
unfolding goes
goes_other p m e h =
    let a = and_parts (eqb m.promotion 0) (attacks_from p.side p.codes m.from m.to || castles p m) (left (is_pawn_move p m) _ _ e h) in
    (eqb-true _ _ a.0, or_cases _ _ a.1)
  where
    left : (b x y : Bool) → b ≡ false → (elim b [ true ↦ x | false ↦ y ]) ≡ true → y ≡ true
    left false x y e h = h
    left true x y e h = absurd (both_ways true e refl)

-- a promotion is to a knight, bishop, rook or queen, by a pawn on the last rank
pub promotion_range : (side : Side) (m : Move) → promotes side m ≡ true → eqb m.promotion 0 ≡ false → (2 ≤ m.promotion) × (m.promotion ≤ 5)
promotion_range side m h n = elim (cases_Bool (eqb (rank m.to) (last_rank side))) [
  | inl e ↦
      let a = and_parts (leb 2 m.promotion) (leb m.promotion 5) (sym (cond-true _ _ _ e) ∙ h) in
      (leb-true _ _ a.0, leb-true _ _ a.1)
  | inr e ↦ absurd (both_ways _ n (sym (cond-false _ (leb 2 m.promotion && leb m.promotion 5) (eqb m.promotion 0) e) ∙ h))
]

pub legal_promotion : (p : Parts) (m : Move) → Legal p m
    → (m.promotion ≡ 0) ⊎ ((is_pawn_move p m ≡ true) × (2 ≤ m.promotion) × (m.promotion ≤ 5))
legal_promotion p m h = elim (cases_Bool (is_pawn_move p m)) [
  | inr n ↦ inl (goes_other p m n h.way).0
  | inl y ↦ elim (cases_Bool (eqb m.promotion 0)) [
    | inl e ↦ inl (eqb-true _ _ e)
    | inr e ↦ let r = promotion_range p.side m (goes_pawn p m y h.way).0 e in inr (y, r.0, r.1)
  ]
]

-- castling
pub data CastlingWay (p : Parts) (m : Move) : Type 0 where
  kingside : m.to ≡ king_home p.side + 2 → castles_kingside p.codes p.side (own_rights p).kingside ≡ true → CastlingWay p m
  queenside : m.to ≡ king_home p.side - 2 → castles_queenside p.codes p.side (own_rights p).queenside ≡ true → CastlingWay p m

pub castles_parts : (p : Parts) (m : Move) → castles p m ≡ true
    → (mover p m ≡ code p.side King) × (m.from ≡ king_home p.side) × CastlingWay p m
unfolding castles
castles_parts p m h =
    let a = then_parts (holds p.codes p.side King m.from && eqb m.from (king_home p.side)) _ h in
    let b = and_parts (holds p.codes p.side King m.from) (eqb m.from (king_home p.side)) a.0 in (
      eqb-true _ _ b.0,
      eqb-true _ _ b.1,
      elim (or_cases _ _ a.1) [
        | inl c ↦ let d = then_parts (eqb m.to (king_home p.side + 2)) _ c in kingside (eqb-true _ _ d.0) d.1
        | inr c ↦ let d = then_parts (eqb m.to (king_home p.side - 2)) _ c in queenside (eqb-true _ _ d.0) d.1
      ],
    )

pub kingside_parts : (codes : List ℕ) (side : Side) (right : Bool) → castles_kingside codes side right ≡ true
    → (right ≡ true) × (get_or codes (king_home side + 1) 0 ≡ 0) × (get_or codes (king_home side + 2) 0 ≡ 0)
unfolding castles_kingside
kingside_parts codes side right h =
    let a = and_parts (right && empty codes (king_home side + 1)) (empty codes (king_home side + 2)) (then_parts _ _ h).0 in
    let b = and_parts right (empty codes (king_home side + 1)) a.0 in
    (b.0, eqb-true _ _ b.1, eqb-true _ _ a.1)

pub queenside_parts : (codes : List ℕ) (side : Side) (right : Bool) → castles_queenside codes side right ≡ true
    → (right ≡ true) × (get_or codes (king_home side - 1) 0 ≡ 0) × (get_or codes (king_home side - 2) 0 ≡ 0)
unfolding castles_queenside
queenside_parts codes side right h =
    let a = and_parts (right && empty codes (king_home side - 1) && empty codes (king_home side - 2)) (empty codes (king_home side - 3)) (then_parts _ _ h).0 in
    let b = and_parts (right && empty codes (king_home side - 1)) (empty codes (king_home side - 2)) a.0 in
    let c = and_parts right (empty codes (king_home side - 1)) b.0 in
    (c.0, eqb-true _ _ c.1, eqb-true _ _ b.1)

-- a king's step is not by two files
step_near : (s t : ℕ) → king_step s t ≡ true → far (file s) (file t) ≡ true → ⊥
unfolding king_step
step_near s t h k = grind (arith, nat_tests)

-- the king's legal move by two files is castling
pub legal_castling : (p : Parts) (m : Move) → Legal p m → is_castling p m ≡ true → (m.from ≡ king_home p.side) × CastlingWay p m
legal_castling p m h e =
    let a = and_parts (holds p.codes p.side King m.from) (far (file m.from) (file m.to)) e in
    let k : mover p m ≡ code p.side King = eqb-true _ _ a.0 in
    elim (goes_other p m (no_pawn p.side k) h.way).1 [
      | inl b ↦ absurd (step_near m.from m.to (sym (king_attacks p.side p.codes _ _ k) ∙ b) a.1)
      | inr c ↦ let d = castles_parts p m c in (d.1, d.2)
    ]
  where
    no_pawn : (side : Side) → mover p m ≡ code side King → holds p.codes side Pawn m.from ≡ false
    no_pawn White k = rw k
    no_pawn Black k = rw k

-- a legal move goes to an empty square, or to one that the piece attacks
pub legal_hit : (p : Parts) (m : Move) → Legal p m → (get_or p.codes m.to 0 ≡ 0) ⊎ (attacks_from p.side p.codes m.from m.to ≡ true)
legal_hit p m h = elim (cases_Bool (is_pawn_move p m)) [
  | inl y ↦ elim (goes_pawn p m y h.way).1 [
    | steps e z ↦ inl z
    | jumps r e z₁ z ↦ inl z
    | takes a o ↦ inr ((decides_from _ _ _ _).1 (inl (eqb-true _ _ y, a)))
  ]
  | inr n ↦ elim (goes_other p m n h.way).1 [
    | inl a ↦ inr a
    | inr c ↦ elim (castles_parts p m c).2 [
      | kingside e k ↦ inl (ap (λ (s : ℕ). get_or p.codes s 0) e ∙ (kingside_parts _ _ _ k).2)
      | queenside e k ↦ inl (ap (λ (s : ℕ). get_or p.codes s 0) e ∙ (queenside_parts _ _ _ k).2)
    ]
  ]
]
