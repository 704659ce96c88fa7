-- The squares of the numbers of a range that ends at 64, one after another.
use Rattle.std.proofs.Common.{◌≡◌, ℕ, ◌+◌, ◌≤◌, Some, None, Option, List, [], ◌∷◌, MatchOption, sym, ◌∙◌, arith}
use Rattle.std.specs.Prelude.{IsSome}
use Rattle.std.proofs.lemmas.Bool.{false≢true}
use Rattle.std.specs.List.{FoldsTo}
use Rattle.std.specs.Fn.{Called}
use Rattle.std.specs.Iterator.{YieldsThen}
use Rattle.std.specs.declared.ops.Range.{Range}
use Rattle.std.proofs.iter.Yields.{nat_range_steps}
use denote.Param.Members.{Mut}
use Rattle.board.specs.declared.square.Square.{Square}
use Rattle.board.proofs.SquareLaws.{SquareOf, is_square, no_square}

-- what a call of `next` gives, and where it leaves the range
abbrev pub Turn : Range ℕ → Option Square → Range ℕ → Type 0
Turn s r u = (u.end ≡ 64) × MatchOption r (64 ≤ s.start) (λ q. (q.number ≡ s.start) × (u.start ≡ s.start + 1))

module _ {F : Type 0} {g : Mut F (ℕ × Unit {0}) (Option Square)} (tells : (p : F) (x : ℕ) (o : Option Square) (q : F) → Called g p (x, tt) o q → SquareOf x o) where
  pub turn : (s u : Range ℕ) (p f : F) (xs : List ℕ) (o : Option ℕ) (r : Option Square) (Q : Type 0) (h : F) → s.end ≡ 64
      → YieldsThen nat_range_steps s xs o u → FoldsTo (λ p x q. Called g p (x, tt) None q) p xs f
      → MatchOption o ((r ≡ None) × Q) (λ x. Called g f (x, tt) r h × IsSome r) → Turn s r u
  turn s u p f (x ∷ xs) o r Q h e y c m =
      let first = y.1.1.1 in
      let l = no_square x (tells p x None c.0 c.1) in
      absurd (omega (arith, e, l, first.0, first.1))
  turn s u p f [] None r Q h e y c m =
      let z = rw (sym y.1) at y.2 in
      rw m.0 (z.0 ∙ e, omega (arith, z.1.0, e))
  turn s u p f [] (Some x) None Q h e y c m = absurd (false≢true m.1)
  turn s u p f [] (Some x) (Some q) Q h e y c m =
      let z = rw (sym y.1) at y.2 in
      (z.0 ∙ e, ((is_square x q (tells f x (Some q) h m.0)).1 ∙ z.1.1, z.1.2))
