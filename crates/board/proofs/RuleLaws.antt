-- The attack test says what the laws of chess say.
use Rattle.std.proofs.Common.{◌≡◌, ℕ, zero, suc, ◌<◌, ◌≤◌, true, ◌||◌, eqb, ◌⊎◌, List, get_or, Decides, sym, refl, subst, inl, inr, ⊎_elim, arith}
use Rattle.std.proofs.lemmas.Bool.{cases_lt, cases_eq, or_cases, or_left, or_right, eqb-true, eq-eqb}
use Rattle.std.proofs.lemmas.Bool.Decides.{nat_tests, Decides-like}
use Rattle.board.specs.declared.side.Side.{Side}
use Rattle.board.specs.declared.side.Side.TheVariants.{White, Black}
use Rattle.board.specs.declared.piece.Kind.TheVariants.{King}
use Rattle.board.specs.Geometry.{Direction, East, NorthWest, North, NorthEast, West, SouthEast, South, SouthWest, direction, beyond, file, rank, knight_step, king_step}
use Rattle.board.specs.Piece.{other, code}
use Rattle.board.specs.Attack.{pawn_attack, slides, attacks_from, attacks, in_check}
use Rattle.board.specs.Rule.{Line, Mover, Rank, File, Diagonal, On, files, ranks, StrictlyBetween, Reaches, OneAhead, Attacks, pawn, knight, bishop, rook, queen, king, InCheck}
use Rattle.board.proofs.AttackLaws.{Along, From, decides_from, decides_attacks, decides_check}

-- the line of a direction
abbrev pub line : Direction → Line
line East = Rank
line West = Rank
line North = File
line South = File
line NorthEast = Diagonal
line SouthWest = Diagonal
line NorthWest = Diagonal
line SouthEast = Diagonal

on_line : (d : Direction) (t s : ℕ) → beyond d t s ≡ true → (s ≡ t → ⊥) × On (line d) s t
on_line East t s h = (λ e. grind (arith, nat_tests), grind (arith, nat_tests))
on_line West t s h = (λ e. grind (arith, nat_tests), grind (arith, nat_tests))
on_line North t s h = (λ e. grind (arith, nat_tests), grind (arith, nat_tests))
on_line South t s h = (λ e. grind (arith, nat_tests), grind (arith, nat_tests))
on_line NorthEast t s h = (λ e. grind (arith, nat_tests), grind (arith, nat_tests))
on_line SouthWest t s h = (λ e. grind (arith, nat_tests), grind (arith, nat_tests))
on_line NorthWest t s h = (λ e. grind (arith, nat_tests), grind (arith, nat_tests))
on_line SouthEast t s h = (λ e. grind (arith, nat_tests), grind (arith, nat_tests))

-- the squares between two in a direction are those strictly between on the line
way_there : (d : Direction) (t u s : ℕ) → beyond d t s ≡ true → On (line d) s u → On (line d) u t → StrictlyBetween s u t
    → (beyond d t u ≡ true) × (beyond d u s ≡ true)
way_there East t u s h a b c = let p = c.0 in let q = c.1 in let x = c.2 in let y = c.3 in (grind (arith, nat_tests), grind (arith, nat_tests))
way_there West t u s h a b c = let p = c.0 in let q = c.1 in let x = c.2 in let y = c.3 in (grind (arith, nat_tests), grind (arith, nat_tests))
way_there North t u s h a b c = let p = c.0 in let q = c.1 in let x = c.2 in let y = c.3 in (grind (arith, nat_tests), grind (arith, nat_tests))
way_there South t u s h a b c = let p = c.0 in let q = c.1 in let x = c.2 in let y = c.3 in (grind (arith, nat_tests), grind (arith, nat_tests))
way_there NorthEast t u s h a b c = let p = c.0 in let q = c.1 in let x = c.2 in let y = c.3 in (grind (arith, nat_tests), grind (arith, nat_tests))
way_there SouthWest t u s h a b c = let p = c.0 in let q = c.1 in let x = c.2 in let y = c.3 in (grind (arith, nat_tests), grind (arith, nat_tests))
way_there NorthWest t u s h a b c = let p = c.0 in let q = c.1 in let x = c.2 in let y = c.3 in (grind (arith, nat_tests), grind (arith, nat_tests))
way_there SouthEast t u s h a b c = let p = c.0 in let q = c.1 in let x = c.2 in let y = c.3 in (grind (arith, nat_tests), grind (arith, nat_tests))

way_back : (d : Direction) (t u s : ℕ) → beyond d t u ≡ true → beyond d u s ≡ true
    → On (line d) s u × On (line d) u t × StrictlyBetween s u t
way_back East t u s h k =
    (grind (arith, nat_tests), grind (arith, nat_tests), (λ e. grind (arith, nat_tests), λ e. grind (arith, nat_tests), grind (arith, nat_tests), grind (arith, nat_tests)))
way_back West t u s h k =
    (grind (arith, nat_tests), grind (arith, nat_tests), (λ e. grind (arith, nat_tests), λ e. grind (arith, nat_tests), grind (arith, nat_tests), grind (arith, nat_tests)))
way_back North t u s h k =
    (grind (arith, nat_tests), grind (arith, nat_tests), (λ e. grind (arith, nat_tests), λ e. grind (arith, nat_tests), grind (arith, nat_tests), grind (arith, nat_tests)))
way_back South t u s h k =
    (grind (arith, nat_tests), grind (arith, nat_tests), (λ e. grind (arith, nat_tests), λ e. grind (arith, nat_tests), grind (arith, nat_tests), grind (arith, nat_tests)))
way_back NorthEast t u s h k =
    (grind (arith, nat_tests), grind (arith, nat_tests), (λ e. grind (arith, nat_tests), λ e. grind (arith, nat_tests), grind (arith, nat_tests), grind (arith, nat_tests)))
way_back SouthWest t u s h k =
    (grind (arith, nat_tests), grind (arith, nat_tests), (λ e. grind (arith, nat_tests), λ e. grind (arith, nat_tests), grind (arith, nat_tests), grind (arith, nat_tests)))
way_back NorthWest t u s h k =
    (grind (arith, nat_tests), grind (arith, nat_tests), (λ e. grind (arith, nat_tests), λ e. grind (arith, nat_tests), grind (arith, nat_tests), grind (arith, nat_tests)))
way_back SouthEast t u s h k =
    (grind (arith, nat_tests), grind (arith, nat_tests), (λ e. grind (arith, nat_tests), λ e. grind (arith, nat_tests), grind (arith, nat_tests), grind (arith, nat_tests)))

-- two squares on one line lie in a direction of it
abbrev Lies : Line → ℕ → ℕ → Type 0
Lies l t s = (d : ℕ) × (d < 8) × (line (direction d) ≡ l) × (beyond (direction d) t s ≡ true)

apart : (s t : ℕ) → file s ≡ file t → rank s ≡ rank t → s ≡ t
apart s t f r = omega arith

lies : (l : Line) (t s : ℕ) → (s ≡ t → ⊥) → On l s t → Lies l t s
lies Rank t s ne on =
    ⊎_elim (λ (h : file t < file s). (0, omega arith, refl, grind (arith, nat_tests)))
    (λ (h : file s ≤ file t). ⊎_elim
    (λ (e : file s ≡ file t). absurd (ne (apart s t e on)))
    (λ (d : file s ≡ file t → ⊥). (4, omega arith, refl, grind (arith, nat_tests)))
    (cases_eq (file s) (file t)))
    (cases_lt (file t) (file s))
lies File t s ne on =
    ⊎_elim (λ (h : rank t < rank s). (2, omega arith, refl, grind (arith, nat_tests)))
    (λ (h : rank s ≤ rank t). ⊎_elim
    (λ (e : rank s ≡ rank t). absurd (ne (apart s t on e)))
    (λ (d : rank s ≡ rank t → ⊥). (6, omega arith, refl, grind (arith, nat_tests)))
    (cases_eq (rank s) (rank t)))
    (cases_lt (rank t) (rank s))
lies Diagonal t s ne on =
    ⊎_elim
    (λ (e : rank s ≡ rank t). absurd (ne (apart s t (omega arith) e)))
    (λ (d : rank s ≡ rank t → ⊥). ⊎_elim
    (λ (h : rank t < rank s). ⊎_elim
    (λ (k : file t < file s). (3, omega arith, refl, grind (arith, nat_tests)))
    (λ (k : file s ≤ file t). (1, omega arith, refl, grind (arith, nat_tests)))
    (cases_lt (file t) (file s)))
    (λ (h : rank s ≤ rank t). ⊎_elim
    (λ (k : file t < file s). (5, omega arith, refl, grind (arith, nat_tests)))
    (λ (k : file s ≤ file t). (7, omega arith, refl, grind (arith, nat_tests)))
    (cases_lt (file t) (file s)))
    (cases_lt (rank t) (rank s)))
    (cases_eq (rank s) (rank t))

-- which pieces move along a direction
either : (c x y : ℕ) → Decides (eqb c x || eqb c y) ((c ≡ x) ⊎ (c ≡ y))
either c x y = (
  λ h. ⊎_elim (λ (e : eqb c x ≡ true). inl (eqb-true c x e)) (λ (e : eqb c y ≡ true). inr (eqb-true c y e)) (or_cases (eqb c x) (eqb c y) h),
  λ h. ⊎_elim (λ (e : c ≡ x). or_left _ _ (eq-eqb c x e)) (λ (e : c ≡ y). or_right (eqb c x) _ (eq-eqb c y e)) h,
)

pub movers : (side : Side) (d c : ℕ) → d < 8 → Decides (slides side d c) (Mover side (line (direction d)) c)
unfolding slides
movers side zero c h = either c _ _
movers side (suc zero) c h = either c _ _
movers side (suc (suc zero)) c h = either c _ _
movers side (suc (suc (suc zero))) c h = either c _ _
movers side (suc (suc (suc (suc zero)))) c h = either c _ _
movers side (suc (suc (suc (suc (suc zero))))) c h = either c _ _
movers side (suc (suc (suc (suc (suc (suc zero)))))) c h = either c _ _
movers side (suc (suc (suc (suc (suc (suc (suc zero))))))) c h = either c _ _
movers side (suc (suc (suc (suc (suc (suc (suc (suc d)))))))) c h = absurd (omega arith)

module _ (side : Side) (codes : List ℕ) (s t : ℕ) where
  abbrev pub Moving : Line → Type 0
  Moving l = Mover side l (get_or codes s 0) × Reaches l codes s t

  pub along_moves : (d : ℕ) → d < 8 → Along side codes d s t → Moving (line (direction d))
  along_moves d h (sl, by, clear) =
      let on = on_line (direction d) t s by in (
        (movers side d (get_or codes s 0) h).0 sl,
        (on.0, on.1, λ u hu a b c. let w = way_there (direction d) t u s by a b c in clear u hu w.0 w.1),
      )

  pub moves_along : (l : Line) → Moving l → (d : ℕ) × (d < 8) × Along side codes d s t
  moves_along l (m, (ne, on, free)) =
      let p = lies l t s ne on in
      let d = p.0 in
      let e = p.2 in (
        d,
        p.1,
        (
          (movers side d (get_or codes s 0) p.1).1 (subst (λ x. Mover side x (get_or codes s 0)) (sym e) m),
          p.3,
          λ u hu h k.
              let w = way_back (direction d) t u s h k in
              free u hu (subst (λ x. On x s u) e w.0) (subst (λ x. On x u t) e w.1) w.2,
        ),
      )

  moving_attacks : (l : Line) → Moving l → Attacks side codes s t
  moving_attacks Rank (inl e, r) = queen e Rank r
  moving_attacks Rank (inr e, r) = rook e (inl r)
  moving_attacks File (inl e, r) = queen e File r
  moving_attacks File (inr e, r) = rook e (inr r)
  moving_attacks Diagonal (inl e, r) = queen e Diagonal r
  moving_attacks Diagonal (inr e, r) = bishop e r

pawn_rule : (side : Side) (s t : ℕ) → Decides (pawn_attack side s t) (OneAhead side s t × (files s t ≡ 1))
unfolding pawn_attack
pawn_rule White s t = (λ h. (grind (arith, nat_tests), grind (arith, nat_tests)), λ p. let a = p.0 in let b = p.1 in grind (arith, nat_tests))
pawn_rule Black s t = (λ h. (grind (arith, nat_tests), grind (arith, nat_tests)), λ p. let a = p.0 in let b = p.1 in grind (arith, nat_tests))

knight_rule : (s t : ℕ) → Decides (knight_step s t) (((files s t ≡ 1) × (ranks s t ≡ 2)) ⊎ ((files s t ≡ 2) × (ranks s t ≡ 1)))
unfolding knight_step
knight_rule s t = (
  λ h. grind (arith, nat_tests),
  λ p. ⊎_elim
      (λ (q : (files s t ≡ 1) × (ranks s t ≡ 2)). let a = q.0 in let b = q.1 in grind (arith, nat_tests))
      (λ (q : (files s t ≡ 2) × (ranks s t ≡ 1)). let a = q.0 in let b = q.1 in grind (arith, nat_tests)) p,
)

king_rule : (s t : ℕ) → Decides (king_step s t) ((s ≡ t → ⊥) × (files s t ≤ 1) × (ranks s t ≤ 1))
unfolding king_step
king_rule s t = (
  λ h. (λ e. grind (arith, nat_tests), grind (arith, nat_tests), grind (arith, nat_tests)),
  λ p. let a = p.1 in let b = p.2 in
      ⊎_elim
      (λ (f : file s ≡ file t). ⊎_elim
      (λ (r : rank s ≡ rank t). absurd (p.0 (apart s t f r)))
      (λ (r : rank s ≡ rank t → ⊥). grind (arith, nat_tests)) (cases_eq (rank s) (rank t)))
      (λ (f : file s ≡ file t → ⊥). grind (arith, nat_tests)) (cases_eq (file s) (file t)),
)

-- the piece on s attacks t by the test exactly where it does by the laws
by_rule : (side : Side) (codes : List ℕ) (s t : ℕ) → From side codes s t → Attacks side codes s t
by_rule side codes s t (inl (e, h)) = let r = (pawn_rule side s t).0 h in pawn e r.0 r.1
by_rule side codes s t (inr (inl (e, h))) = knight e ((knight_rule s t).0 h)
by_rule side codes s t (inr (inr (inl (e, h)))) = let r = (king_rule s t).0 h in king e r.0 r.1 r.2
by_rule side codes s t (inr (inr (inr (d, h, a)))) = moving_attacks side codes s t (line (direction d)) (along_moves side codes s t d h a)

by_test : (side : Side) (codes : List ℕ) (s t : ℕ) → Attacks side codes s t → From side codes s t
by_test side codes s t (pawn e a f) = inl (e, (pawn_rule side s t).1 (a, f))
by_test side codes s t (knight e h) = inr (inl (e, (knight_rule s t).1 h))
by_test side codes s t (king e ne f r) = inr (inr (inl (e, (king_rule s t).1 (ne, f, r))))
by_test side codes s t (bishop e r) = inr (inr (inr (moves_along side codes s t Diagonal (inr e, r))))
by_test side codes s t (rook e (inl r)) = inr (inr (inr (moves_along side codes s t Rank (inr e, r))))
by_test side codes s t (rook e (inr r)) = inr (inr (inr (moves_along side codes s t File (inr e, r))))
by_test side codes s t (queen e Rank r) = inr (inr (inr (moves_along side codes s t Rank (inl e, r))))
by_test side codes s t (queen e File r) = inr (inr (inr (moves_along side codes s t File (inl e, r))))
by_test side codes s t (queen e Diagonal r) = inr (inr (inr (moves_along side codes s t Diagonal (inl e, r))))

pub decides_rule : (side : Side) (codes : List ℕ) (s t : ℕ) → Decides (attacks_from side codes s t) (Attacks side codes s t)
decides_rule side codes s t = Decides-like _ (by_rule side codes s t) (by_test side codes s t) (decides_from side codes s t)

pub check_rule : (side : Side) (codes : List ℕ) → Decides (in_check side codes) (InCheck side codes)
check_rule side codes = Decides-like _ there back (decides_check side codes)
  where
    there : (k : ℕ) × (k < 64) × ((get_or codes k 0 ≡ code side King) × (attacks (other side) codes k ≡ true)) → InCheck side codes
    there (k, l, (e, a)) =
        let p = (decides_attacks (other side) codes k).0 a in
        record { k = k; s = p.1.0; k_within = l; s_within = p.1.1; king_stands = e; attacked = by_rule (other side) codes p.1.0 k p.1.2 }

    back : InCheck side codes → (k : ℕ) × (k < 64) × ((get_or codes k 0 ≡ code side King) × (attacks (other side) codes k ≡ true))
    back c = (
      c.k,
      c.k_within,
      (c.king_stands, (decides_attacks (other side) codes c.k).1 (c.k_within, (c.s, c.s_within, by_test (other side) codes c.s c.k c.attacked))),
    )
