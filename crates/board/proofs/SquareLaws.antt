-- An answer at a number that names a square, and another at one that names none.
use Rattle.std.proofs.Common.{◌≡◌, ℕ, ◌<◌, ◌≤◌, cond, ltb, Some, None, Option, MatchOption, sym, ap, ◌∙◌, ⊎_elim}
use Rattle.std.proofs.lemmas.Bool.{cases_lt, ltb-true, lt-ltb, le-ltb, cond-true, cond-false}
use Rattle.std.proofs.lemmas.Option.{cond_some, none-some}
use Rattle.std.specs.Option.{option_map}
use Rattle.board.specs.declared.square.Square.{Square}

-- what `Square::new` answers at a number
abbrev pub SquareOf : ℕ → Option Square → Type 0
SquareOf n o = option_map (λ (s : Square). s.number) o ≡ cond (ltb n 64) (Some n) None

pub is_square : (n : ℕ) (s : Square) → SquareOf n (Some s) → (n < 64) × (s.number ≡ n)
is_square n s e = let p = cond_some (ltb n 64) n s.number (sym e) in (ltb-true n 64 p.0, sym p.1)

pub no_square : (n : ℕ) → SquareOf n None → 64 ≤ n
no_square n e = ⊎_elim (λ (h : n < 64). absurd (none-some n (e ∙ cond-true (ltb n 64) (Some n) None (lt-ltb n 64 h)))) (λ h. h) (cases_lt n 64)

pub by_square : {A : Type 0} (n : ℕ) (o : Option Square) (r other : A) (f : ℕ → A) (P : Square → Type 0)
    → SquareOf n o → MatchOption o (r ≡ other) P → ((s : Square) → P s → r ≡ f s.number) → r ≡ cond (ltb n 64) (f n) other
by_square n None r other f P e m t = m ∙ sym (cond-false _ (f n) other (le-ltb n 64 (no_square n e)))
by_square n (Some s) r other f P e m t = let q = is_square n s e in t s m ∙ ap f q.1 ∙ sym (cond-true _ (f n) other (lt-ltb n 64 q.0))
