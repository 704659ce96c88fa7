-- The searches of a make of board, kind by kind, together are the attack test.
use Rattle.std.proofs.Common.{◌≡◌, ℕ, ◌<◌, Bool, ◌&&◌, ◌||◌, List, get_or, Decides}
use Rattle.std.proofs.lemmas.Bool.Decides.{Decides-or, Decides-and, Decides-eqb, same_from_decides}
use Rattle.board.specs.declared.side.Side.{Side}
use Rattle.board.specs.declared.piece.Kind.{Kind}
use Rattle.board.specs.declared.piece.Kind.TheVariants.{Pawn, Knight, King}
use Rattle.board.specs.Geometry.{knight_step, king_step}
use Rattle.board.specs.Piece.{code, holds}
use Rattle.board.specs.Attack.{pawn_attack, attacks_along, attacks}
use Rattle.board.specs.Hits.{step_hit, line_hit, lines_hit}
use Rattle.board.proofs.BelowLaws.{decides_some, decides_itself}
use Rattle.board.proofs.AttackLaws.{Along, Lined, Stepped, Stepping, decides_along, decides_reached}

pub decides_step : (side : Side) (codes : List ℕ) (kind : Kind) (step : ℕ → ℕ → Bool) (t : ℕ) → Decides (step_hit side codes kind step t) (Stepping side codes kind step t)
unfolding step_hit
decides_step side codes kind step t =
    decides_some 64 (λ s. holds codes side kind s && step s t) (λ s. Stepped side codes kind step s t)
    (λ s. Decides-and _ _ (Decides-eqb (get_or codes s 0) (code side kind)) (decides_itself (step s t)))

pub decides_line : (side : Side) (codes : List ℕ) (d t : ℕ) → Decides (line_hit side codes d t) (Lined side codes d t)
unfolding line_hit
decides_line side codes d t = decides_some 64 (λ s. attacks_along side codes d s t) (λ s. Along side codes d s t) (λ s. decides_along side codes d s t)

pub decides_lines : (side : Side) (codes : List ℕ) (t : ℕ) → Decides (lines_hit side codes t) ((d : ℕ) × (d < 8) × Lined side codes d t)
unfolding lines_hit
decides_lines side codes t = decides_some 8 (λ d. line_hit side codes d t) (λ d. Lined side codes d t) (λ d. decides_line side codes d t)

pub attacks_by_kind : (side : Side) (codes : List ℕ) (t : ℕ) → t < 64 →
    attacks side codes t ≡ (step_hit side codes Pawn (pawn_attack side) t || (step_hit side codes Knight knight_step t || (step_hit side codes King king_step t || lines_hit side codes t)))
attacks_by_kind side codes t ht =
    same_from_decides _ _ (decides_reached side codes t ht)
    (Decides-or _ _ (decides_step side codes Pawn (pawn_attack side) t)
    (Decides-or _ _ (decides_step side codes Knight knight_step t)
    (Decides-or _ _ (decides_step side codes King king_step t) (decides_lines side codes t))))
