-- What a piece attacks, by the line that it moves along.
use Rattle.std.proofs.Common.{◌≡◌, ℕ, Bool, true, false, List, get_or, Decides, refl}
use Rattle.std.proofs.lemmas.Bool.Decides.{Decides-like, same_from_decides}
use Rattle.board.specs.declared.side.Side.{Side}
use Rattle.board.specs.Below.{some_below}
use Rattle.board.specs.Geometry.{direction}
use Rattle.board.specs.Attack.{attacks_along}
use Rattle.board.specs.Rule.{Line, Mover, Rank, File, Diagonal, On, Reaches}
use Rattle.board.proofs.BelowLaws.{decides_some}
use Rattle.board.proofs.AttackLaws.{Along, decides_along}
use Rattle.board.proofs.RuleLaws as rule
use Rattle.moves.specs.Path.{Free, Slides}

-- the piece attacks along some direction exactly where it moves along a line that is free
module _ (side : Side) (codes : List ℕ) (s t : ℕ) where
  abbrev ByLine : Type 0
  ByLine = (l : Line) × rule.Moving side codes s t l

  pub decides_lines : Decides (some_below 8 (λ d. attacks_along side codes d s t)) ByLine
  decides_lines =
      Decides-like _
      (λ p. (rule.line (direction p.0), rule.along_moves side codes s t p.0 p.1 p.2))
      (λ p. rule.moves_along side codes s t p.0 p.1)
      (decides_some 8 (λ d. attacks_along side codes d s t) (λ d. Along side codes d s t) (λ d. decides_along side codes d s t))

  pub lines_open : (r : Bool) → Slides side (get_or codes s 0) s t → ((l : Line) → (s ≡ t → ⊥) → On l s t → Decides r (Free l codes s t))
      → r ≡ some_below 8 (λ d. attacks_along side codes d s t)
  lines_open r (ne, (l, on, m)) free = same_from_decides r _
      (Decides-like r (λ f. (l, as_moving l m (ne, on, f))) (λ p. once p.0 p.1) (free l ne on)) decides_lines
    where
      as_moving : (l : Line) → Mover side l (get_or codes s 0) → Reaches l codes s t → rule.Moving side codes s t l
      as_moving Rank m f = (m, f)
      as_moving File m f = (m, f)
      as_moving Diagonal m f = (m, f)

      once : (x : Line) → rule.Moving side codes s t x → Free l codes s t
      once x (_, (_, on', f)) = (free l ne on).0 ((free x ne on').1 f)

  pub lines_shut : (Slides side (get_or codes s 0) s t → ⊥) → some_below 8 (λ d. attacks_along side codes d s t) ≡ false
  lines_shut no' = shut _ (λ h. let p = decides_lines.0 h in no' (sliding p.0 p.1))
    where
      shut : (b : Bool) → (b ≡ true → ⊥) → b ≡ false
      shut true f = absurd (f refl)
      shut false f = refl

      sliding : (l : Line) → rule.Moving side codes s t l → Slides side (get_or codes s 0) s t
      sliding Rank (m, (ne, on, _)) = (ne, (Rank, on, m))
      sliding File (m, (ne, on, _)) = (ne, (File, on, m))
      sliding Diagonal (m, (ne, on, _)) = (ne, (Diagonal, on, m))
