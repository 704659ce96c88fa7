-- Where promoting moves start, and the legal moves where there can be none.
use Rattle.std.proofs.Common.{◌≡◌, ℕ, zero, suc, ◌+◌, ◌*◌, ◌/◌, ◌%◌, ◌<◌, ◌≤◌, Bool, true, false, eqb, List, get_or, Option, sym, refl, ap, ◌∙◌, ⊎_elim, arith}
use Rattle.std.proofs.lemmas.Bool.{eqb-true, eq-eqb, and_parts, both_ways, cases_eq}
use Rattle.board.specs.declared.side.Side.{Side}
use Rattle.board.specs.declared.side.Side.TheVariants.{White, Black}
use Rattle.board.specs.declared.piece.Kind.TheVariants.{Pawn}
use Rattle.board.specs.Below.{some_below}
use Rattle.board.specs.Geometry.{rank}
use Rattle.board.specs.Piece.{other, code, holds}
use Rattle.board.specs.Attack.{pawn_attack}
use Rattle.board.proofs.BelowLaws.{not_passed, some_from}
use Rattle.rules.specs.Parts.{Parts}
use Rattle.rules.specs.Lawful.{lawful}
use Rattle.rules.specs.Move.{numbered_move}
use Rattle.rules.specs.Legal.{pawn_home, last_rank, legal, legal_moves}
use Rattle.rules.proofs.LawfulParts.{lawful_parts}
use Rattle.rules.proofs.LegalLaws.{PawnWay, steps, jumps, takes, legal_parts, goes_pawn}
use Rattle.moves.proofs.TrialLaws.{promoting, not_last, legal_below, none_more, all_below}

-- a pawn comes to its last rank from where the other side's pawns start
last_step : (side : Side) (codes : List ℕ) (crossed : Option ℕ) (from to : ℕ) → 8 ≤ from → from < 56 → PawnWay codes side crossed from to
    → rank to ≡ last_rank side → rank from ≡ pawn_home (other side)
unfolding pawn_attack
last_step White codes crossed from to l m (steps e h) r = omega arith
last_step White codes crossed from to l m (jumps a e h k) r = absurd (omega arith)
last_step White codes crossed from to l m (takes a h) r = let t : rank from + 1 ≡ rank to = eqb-true _ _ (and_parts (eqb _ _) _ a).0 in omega arith
last_step Black codes crossed from to l m (steps e h) r = omega arith
last_step Black codes crossed from to l m (jumps a e h k) r = absurd (omega arith)
last_step Black codes crossed from to l m (takes a h) r = let t : rank to + 1 ≡ rank from = eqb-true _ _ (and_parts (eqb _ _) _ a).0 in omega arith

abbrev pub some_before_last : Parts → Bool
some_before_last p = some_below 8 (λ f. holds p.codes p.side Pawn (8 * pawn_home (other p.side) + f))

module _ (p : Parts) (law : lawful p ≡ true) where
  none_before_last : some_before_last p ≡ false → (n : ℕ) → 4096 ≤ n → legal p (numbered_move n) ≡ false
  none_before_last none n h = not_passed _ (λ l.
      let q = promoting p n (get_or p.codes (n % 64) 0) refl h l in
      let is_pawn : get_or p.codes (n % 64) 0 ≡ code p.side Pawn = eqb-true _ _ q.0 in
      let placed = (lawful_parts p law).placed p.side (n % 64) is_pawn in
      ⊎_elim
      (λ (r : n / 64 % 64 / 8 ≡ last_rank p.side).
      let s = last_step p.side p.codes p.en_passant (n % 64) (n / 64 % 64) placed.0 placed.1 (goes_pawn p (numbered_move n) q.0 (legal_parts p (numbered_move n) l).way).1 r in
      let at : 8 * pawn_home (other p.side) + n % 64 % 8 ≡ n % 64 = omega arith in
      both_ways _ none (some_from 8 _ (n % 64 % 8) (omega arith) (eq-eqb _ _ (ap (λ s. get_or p.codes s 0) at ∙ is_pawn))))
      (λ (r : n / 64 % 64 / 8 ≡ last_rank p.side → ⊥). both_ways _ (not_last p n (get_or p.codes (n % 64) 0) refl h r) l)
      (cases_eq (n / 64 % 64 / 8) (last_rank p.side)))

  above : some_before_last p ≡ false → (k : ℕ) → legal_below p (4096 + k) ≡ legal_below p 4096
  above none zero = refl
  above none (suc k) =
      ap (legal_below p) (let e : 4096 + suc k ≡ 4096 + k + 1 = omega arith in e) ∙ none_more p (4096 + k) (none_before_last none (4096 + k) (omega arith)) ∙ above none k

  -- what is left out has no legal move
  pub all_without : some_before_last p ≡ false → legal_below p 4096 ≡ legal_moves p
  all_without none = sym (above none 20480) ∙ all_below p (4096 + 20480) (omega arith)
