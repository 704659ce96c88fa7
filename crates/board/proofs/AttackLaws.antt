-- The attack test, taken apart: what each make of board shows of its own search.
use Rattle.std.proofs.Common.{◌≡◌, ℕ, ◌<◌, ◌≤◌, Bool, true, false, not, ◌&&◌, ◌||◌, eqb, ◌⊎◌, List, get_or, Decides, refl, subst, inl, inr, arith}
use Rattle.std.proofs.lemmas.Bool.{false≢true, both_ways, le-ltb, and_left}
use Rattle.std.proofs.lemmas.Bool.Decides.{nat_tests, Decides-like, Decides-and, Decides-or, Decides-eqb, Decides-ltb}
use Rattle.board.specs.declared.side.Side.{Side}
use Rattle.board.specs.declared.side.Side.TheVariants.{White, Black}
use Rattle.board.specs.declared.piece.Kind.{Kind}
use Rattle.board.specs.declared.piece.Kind.TheVariants.{Pawn, Knight, Bishop, Rook, Queen, King}
use Rattle.board.specs.Below.{some_below, ◌and_then◌}
use Rattle.board.specs.Geometry.{direction, beyond, knight_step, king_step}
use Rattle.board.specs.Piece.{code, other, holds}
use Rattle.board.specs.Attack.{pawn_attack, slides, clear_between, attacks_along, attacks_from, attacks, in_check}
use Rattle.board.proofs.BelowLaws.{decides_some, decides_all, decides_itself, then_parts, then_from, not_passed}

pub decides_then : {P Q : Type 0} (a b : Bool) → Decides a P → Decides b Q → Decides (a and_then b) (P × Q)
decides_then a b p q = (λ h. let r = then_parts a b h in (p.0 r.0, q.0 r.1), λ h. then_from a b (p.1 h.0) (q.1 h.1))

-- the square u is empty where it lies between
abbrev pub EmptyBetween : List ℕ → ℕ → ℕ → ℕ → ℕ → Type 0
EmptyBetween codes d t s u = beyond (direction d) t u ≡ true → beyond (direction d) u s ≡ true → get_or codes u 0 ≡ 0

implies : (a b c : Bool) (x : ℕ) → Decides c (x ≡ 0) → Decides (not (a && b) || c) (a ≡ true → b ≡ true → x ≡ 0)
implies true true c x h = (λ e _ _. h.0 e, λ f. h.1 (f refl refl))
implies true false c x h = (λ _ _ e. absurd (false≢true e), λ _. refl)
implies false b c x h = (λ _ e _. absurd (false≢true e), λ _. refl)

pub decides_clear : (codes : List ℕ) (d t s : ℕ) → Decides (clear_between codes d t s) ((u : ℕ) → u < 64 → EmptyBetween codes d t s u)
unfolding clear_between
decides_clear codes d t s =
    decides_all 64 (λ u. not (beyond (direction d) t u && beyond (direction d) u s) || eqb (get_or codes u 0) 0) (EmptyBetween codes d t s)
    (λ u. implies _ _ _ _ (Decides-eqb (get_or codes u 0) 0))

-- a line piece of the side on s attacks t
abbrev pub Along : Side → List ℕ → ℕ → ℕ → ℕ → Type 0
Along side codes d s t =
    (slides side d (get_or codes s 0) ≡ true) × (beyond (direction d) t s ≡ true) × ((u : ℕ) → u < 64 → EmptyBetween codes d t s u)

pub decides_along : (side : Side) (codes : List ℕ) (d s t : ℕ) → Decides (attacks_along side codes d s t) (Along side codes d s t)
unfolding attacks_along
decides_along side codes d s t =
    Decides-like _ (λ p. (p.0.0, p.0.1, p.1)) (λ p. ((p.0, p.1), p.2))
    (decides_then _ _ (Decides-and _ _ (decides_itself (slides side d (get_or codes s 0))) (decides_itself (beyond (direction d) t s))) (decides_clear codes d t s))

-- a piece of a kind that steps attacks t from s
abbrev pub Stepped : Side → List ℕ → Kind → (ℕ → ℕ → Bool) → ℕ → ℕ → Type 0
Stepped side codes kind step s t = (get_or codes s 0 ≡ code side kind) × (step s t ≡ true)

-- the piece on s attacks t
abbrev pub From : Side → List ℕ → ℕ → ℕ → Type 0
From side codes s t =
    Stepped side codes Pawn (pawn_attack side) s t ⊎ (Stepped side codes Knight knight_step s t
    ⊎ (Stepped side codes King king_step s t ⊎ ((d : ℕ) × (d < 8) × Along side codes d s t)))

pub decides_from : (side : Side) (codes : List ℕ) (s t : ℕ) → Decides (attacks_from side codes s t) (From side codes s t)
unfolding attacks_from
decides_from side codes s t =
    Decides-or _ _ (stepped Pawn (pawn_attack side))
    (Decides-or _ _ (stepped Knight knight_step)
    (Decides-or _ _ (stepped King king_step)
    (decides_some 8 (λ d. attacks_along side codes d s t) (λ d. Along side codes d s t) (λ d. decides_along side codes d s t))))
  where
    stepped : (kind : Kind) (step : ℕ → ℕ → Bool) → Decides (holds codes side kind s && step s t) (Stepped side codes kind step s t)
    stepped kind step = Decides-and _ _ (Decides-eqb (get_or codes s 0) (code side kind)) (decides_itself (step s t))

-- the side attacks t, square by square
pub decides_attacks : (side : Side) (codes : List ℕ) (t : ℕ) → Decides (attacks side codes t) ((t < 64) × ((s : ℕ) × (s < 64) × From side codes s t))
unfolding attacks
decides_attacks side codes t =
    Decides-and _ _ (Decides-ltb t 64) (decides_some 64 (λ s. attacks_from side codes s t) (λ s. From side codes s t) (λ s. decides_from side codes s t))

-- the same, kind by kind: as a board searches
abbrev pub Stepping : Side → List ℕ → Kind → (ℕ → ℕ → Bool) → ℕ → Type 0
Stepping side codes kind step t = (s : ℕ) × (s < 64) × Stepped side codes kind step s t

abbrev pub Lined : Side → List ℕ → ℕ → ℕ → Type 0
Lined side codes d t = (s : ℕ) × (s < 64) × Along side codes d s t

abbrev pub Reached : Side → List ℕ → ℕ → Type 0
Reached side codes t =
    Stepping side codes Pawn (pawn_attack side) t ⊎ (Stepping side codes Knight knight_step t
    ⊎ (Stepping side codes King king_step t ⊎ ((d : ℕ) × (d < 8) × Lined side codes d t)))

pub decides_reached : (side : Side) (codes : List ℕ) (t : ℕ) → t < 64 → Decides (attacks side codes t) (Reached side codes t)
decides_reached side codes t ht = Decides-like _ (λ p. by_kind p.1) (λ p. (ht, by_square p)) (decides_attacks side codes t)
  where
    by_kind : (s : ℕ) × (s < 64) × From side codes s t → Reached side codes t
    by_kind (s, hs, inl p) = inl (s, hs, p)
    by_kind (s, hs, inr (inl p)) = inr (inl (s, hs, p))
    by_kind (s, hs, inr (inr (inl p))) = inr (inr (inl (s, hs, p)))
    by_kind (s, hs, inr (inr (inr (d, hd, p)))) = inr (inr (inr (d, hd, (s, hs, p))))

    by_square : Reached side codes t → (s : ℕ) × (s < 64) × From side codes s t
    by_square (inl (s, hs, p)) = (s, hs, inl p)
    by_square (inr (inl (s, hs, p))) = (s, hs, inr (inl p))
    by_square (inr (inr (inl (s, hs, p)))) = (s, hs, inr (inr (inl p)))
    by_square (inr (inr (inr (d, hd, (s, hs, p))))) = (s, hs, inr (inr (inr (d, hd, p))))

pub attacks_past : (side : Side) (codes : List ℕ) (t : ℕ) → 64 ≤ t → attacks side codes t ≡ false
unfolding attacks
attacks_past side codes t h = and_left _ _ (le-ltb t 64 h)

-- an empty square holds no line piece
pub slides_zero : (side : Side) (d c : ℕ) → slides side d c ≡ true → c ≡ 0 → ⊥
unfolding slides
slides_zero White d c h z = grind (arith, nat_tests)
slides_zero Black d c h z = grind (arith, nat_tests)

-- a king of the side is attacked
pub decides_check : (side : Side) (codes : List ℕ)
    → Decides (in_check side codes) ((k : ℕ) × (k < 64) × ((get_or codes k 0 ≡ code side King) × (attacks (other side) codes k ≡ true)))
unfolding in_check
decides_check side codes =
    decides_some 64 (λ k. holds codes side King k and_then attacks (other side) codes k) _
    (λ k. decides_then _ _ (Decides-eqb (get_or codes k 0) (code side King)) (decides_itself (attacks (other side) codes k)))

pub check_found : (side : Side) (codes : List ℕ) (k : ℕ) → k < 64 → get_or codes k 0 ≡ code side King → attacks (other side) codes k ≡ true
    → in_check side codes ≡ true
check_found side codes k l e a = (decides_check side codes).1 (k, l, (e, a))

pub check_missed : (side : Side) (codes : List ℕ)
    → ((k : ℕ) → k < 64 → get_or codes k 0 ≡ code side King → attacks (other side) codes k ≡ false) → in_check side codes ≡ false
check_missed side codes f =
    not_passed (in_check side codes) (λ h. let r = (decides_check side codes).0 h in both_ways _ (f r.0 r.1 r.2.0) r.2.1)

-- pawns, knights and kings do not slide
abbrev Steps : Kind → Type 0
Steps Pawn = Unit {0}
Steps Knight = Unit {0}
Steps King = Unit {0}
Steps Bishop = ⊥
Steps Rook = ⊥
Steps Queen = ⊥

no_slide : (side : Side) (kind : Kind) → Steps kind → (d : ℕ) → slides side d (code side kind) ≡ true → ⊥
unfolding slides
no_slide White Pawn k d h = grind (arith, nat_tests)
no_slide White Knight k d h = grind (arith, nat_tests)
no_slide White King k d h = grind (arith, nat_tests)
no_slide Black Pawn k d h = grind (arith, nat_tests)
no_slide Black Knight k d h = grind (arith, nat_tests)
no_slide Black King k d h = grind (arith, nat_tests)
no_slide side Bishop k d h = k
no_slide side Rook k d h = k
no_slide side Queen k d h = k

-- what attacks, by the kind of the piece
module _ (side : Side) (codes : List ℕ) (s t : ℕ) where
  no_line : (kind : Kind) → Steps kind → get_or codes s 0 ≡ code side kind → some_below 8 (λ d. attacks_along side codes d s t) ≡ false
  no_line kind k e = not_passed _ (λ h.
      let r = (decides_some 8 (λ d. attacks_along side codes d s t) (λ d. Along side codes d s t) (λ d. decides_along side codes d s t)).0 h in
      no_slide side kind k r.0 (subst (λ (x : ℕ). slides side r.0 x ≡ true) e r.2.0))

only_pawn : (side : Side) (c : ℕ) (p n k l : Bool) → c ≡ code side Pawn → l ≡ false
    → ((eqb c (code side Pawn) && p) || ((eqb c (code side Knight) && n) || ((eqb c (code side King) && k) || l))) ≡ p
only_pawn White c p n k l e f = grind (arith, nat_tests)
only_pawn Black c p n k l e f = grind (arith, nat_tests)

only_knight : (side : Side) (c : ℕ) (p n k l : Bool) → c ≡ code side Knight → l ≡ false
    → ((eqb c (code side Pawn) && p) || ((eqb c (code side Knight) && n) || ((eqb c (code side King) && k) || l))) ≡ n
only_knight White c p n k l e f = grind (arith, nat_tests)
only_knight Black c p n k l e f = grind (arith, nat_tests)

only_king : (side : Side) (c : ℕ) (p n k l : Bool) → c ≡ code side King → l ≡ false
    → ((eqb c (code side Pawn) && p) || ((eqb c (code side Knight) && n) || ((eqb c (code side King) && k) || l))) ≡ k
only_king White c p n k l e f = grind (arith, nat_tests)
only_king Black c p n k l e f = grind (arith, nat_tests)

only_line : (side : Side) (c : ℕ) (p n k l : Bool) → (c ≡ code side Pawn → ⊥) → (c ≡ code side Knight → ⊥) → (c ≡ code side King → ⊥)
    → ((eqb c (code side Pawn) && p) || ((eqb c (code side Knight) && n) || ((eqb c (code side King) && k) || l))) ≡ l
only_line White c p n k l a b d = grind (arith, nat_tests)
only_line Black c p n k l a b d = grind (arith, nat_tests)

module _ (side : Side) (codes : List ℕ) (s t : ℕ) where
  pub pawn_attacks : get_or codes s 0 ≡ code side Pawn → attacks_from side codes s t ≡ pawn_attack side s t
  unfolding attacks_from
  pawn_attacks e = only_pawn side _ _ _ _ _ e (no_line side codes s t Pawn tt e)

  pub knight_attacks : get_or codes s 0 ≡ code side Knight → attacks_from side codes s t ≡ knight_step s t
  unfolding attacks_from
  knight_attacks e = only_knight side _ _ _ _ _ e (no_line side codes s t Knight tt e)

  pub king_attacks : get_or codes s 0 ≡ code side King → attacks_from side codes s t ≡ king_step s t
  unfolding attacks_from
  king_attacks e = only_king side _ _ _ _ _ e (no_line side codes s t King tt e)

  pub line_attacks : (get_or codes s 0 ≡ code side Pawn → ⊥) → (get_or codes s 0 ≡ code side Knight → ⊥) → (get_or codes s 0 ≡ code side King → ⊥)
      → attacks_from side codes s t ≡ some_below 8 (λ d. attacks_along side codes d s t)
  unfolding attacks_from
  line_attacks a b c = only_line side _ _ _ _ _ a b c
