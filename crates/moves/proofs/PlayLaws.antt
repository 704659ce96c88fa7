-- What stands after a move.
use Rattle.std.proofs.Common.{◌≡◌, ℕ, ◌<◌, ◌≤◌, Bool, true, false, cond, eqb, ltb, List, set, sym, refl, subst, ⊎_elim, arith}
use Rattle.std.proofs.lemmas.List.{set_past}
use Rattle.std.proofs.lemmas.Bool.{cases_lt}
use Rattle.board.specs.declared.side.Side.{Side}
use Rattle.board.specs.declared.side.Side.TheVariants.{White, Black}
use Rattle.board.specs.declared.piece.Kind.TheVariants.{Rook}
use Rattle.board.specs.Piece.{code}
use Rattle.board.specs.Meaning.{Shown}
use Rattle.rules.specs.Parts.{Parts}
use Rattle.rules.specs.Move.{Move, mover, is_castling, takes_en_passant}
use Rattle.rules.specs.After.{coloured, arrival, moved, rook_moved, codes_after, after}
use Rattle.rules.proofs.Writes.{shown_set}

-- a board can show the codes after a move
shown_write : (l : List ℕ) (i c : ℕ) → Shown l → c ≤ 12 → Shown (set l i c)
shown_write l i c s h = ⊎_elim
    (λ (k : i < 64). shown_set l i c s k h)
    (λ (k : 64 ≤ i). let long = s.0 in subst Shown (sym (set_past l i c (omega arith))) s)
    (cases_lt i 64)

shown_moved : (l : List ℕ) (from to c : ℕ) → Shown l → c ≤ 12 → Shown (moved l from to c)
unfolding moved
shown_moved l from to c s h = shown_write (set l from 0) to c (shown_write l from 0 s (omega arith)) h

rook_small : (side : Side) → code side Rook ≤ 12
rook_small White = omega arith
rook_small Black = omega arith

coloured_small : (side : Side) (n : ℕ) → n ≤ 5 → coloured side n ≤ 12
coloured_small White n h = omega arith
coloured_small Black n h = omega arith

shown_choice : (b : Bool) (x y : List ℕ) → Shown x → Shown y → Shown (cond b x y)
shown_choice true x y s t = s
shown_choice false x y s t = t

small_choice : (b : Bool) (x y : ℕ) → x ≤ 12 → y ≤ 12 → cond b x y ≤ 12
small_choice true x y s t = s
small_choice false x y s t = t

shown_rook : (l : List ℕ) (side : Side) (from to : ℕ) → Shown l → Shown (rook_moved l side from to)
unfolding rook_moved
shown_rook l side from to s = shown_choice (ltb from to) _ _ (shown_moved l _ _ _ s (rook_small side)) (shown_moved l _ _ _ s (rook_small side))

pub shown_after : (p : Parts) (m : Move) → Shown p.codes → m.promotion ≤ 5 → Shown (codes_after p m)
unfolding codes_after
shown_after p m s h =
    let c = small_choice (eqb m.promotion 0) (mover p m) (coloured p.side m.promotion) (s.1 m.from) (coloured_small p.side m.promotion h) in
    let b = shown_moved p.codes m.from m.to (arrival p m) s c in
    shown_choice (is_castling p m) _ _ (shown_rook _ p.side m.from m.to b) (shown_choice (takes_en_passant p m) _ _ (shown_write _ _ 0 b (omega arith)) b)

pub after_codes : (p : Parts) (m : Move) → (after p m).codes ≡ codes_after p m
unfolding after
after_codes p m = refl
