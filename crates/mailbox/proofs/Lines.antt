-- What a walk from a square to the first piece tells of the line pieces that attack the square.
use Rattle.std.proofs.Common.{◌≡◌, ℕ, ◌+◌, ◌-◌, ◌<◌, ◌≤◌, true, false, ◌⊎◌, List, get_or, sym, refl, ap, ◌∙◌, inl, inr, ⊎_elim, arith}
use Rattle.std.proofs.lemmas.Bool.{cases_eq}
use Rattle.std.proofs.lemmas.Bool.Decides.{nat_tests}
use Rattle.board.specs.declared.side.Side.{Side}
use Rattle.board.specs.declared.side.Side.TheVariants.{White, Black}
use Rattle.board.specs.Geometry.{direction, beyond}
use Rattle.board.specs.Attack.{slides}
use Rattle.board.proofs.BelowLaws.{not_passed, same_tests}
use Rattle.board.proofs.AttackLaws.{slides_zero}
use Rattle.board.specs.Hits.{line_hit}
use Rattle.board.proofs.HitLaws.{decides_line}
use Rattle.mailbox.specs.Cells.{cell_of, square_of, codes_of, steps, Bordered}
use Rattle.mailbox.specs.CellFacts.{cell_of_square}
use Rattle.mailbox.specs.CellLists.{read_cell, Inner, Outer}
use Rattle.mailbox.proofs.Walk.{adjacent, progress, next_beyond, beyond_next, step, no_gap, further, furthest, stepped, stepped_in, stepped_on, stepped_off}

-- a walk from t of k steps has come to a cell, and every square that it passed is empty
pub record Walked (codes : List ℕ) (d t k at : ℕ) : Type 0 where
  pub square : ℕ
  pub on : square < 64
  pub here : at ≡ cell_of square
  pub far : k ≤ progress (direction d) square
  pub from : (square ≡ t) ⊎ (beyond (direction d) t square ≡ true)
  pub passed : (s : ℕ) → s < 64 → beyond (direction d) t s ≡ true → (beyond (direction d) square s ≡ true) ⊎ (get_or codes s 0 ≡ 0)

pub start : (codes : List ℕ) (d t at : ℕ) → t < 64 → at ≡ cell_of t → Walked codes d t 0 at
start codes d t at ht e = record { square = t; on = ht; here = e; far = omega arith; from = inl refl; passed = λ s hs b. inl b }

-- no line piece attacks t where nothing lies beyond the walk's square
module _ (side : Side) (codes : List ℕ) (d t k at : ℕ) (w : Walked codes d t k at) where
  pub line_none : ((s : ℕ) → s < 64 → beyond (direction d) w.square s ≡ true → ⊥) → line_hit side codes d t ≡ false
  line_none none =
      not_passed _ (λ h. let p = (decides_line side codes d t).0 h in
      ⊎_elim (none p.0 p.1) (slides_zero side d _ p.2.0) (w.passed p.0 p.1 p.2.1))

  from_next : (v : ℕ) → adjacent (direction d) w.square v ≡ true → beyond (direction d) t v ≡ true
  from_next v a =
      ⊎_elim (λ (e : w.square ≡ t). next_beyond (direction d) t v (rw e at a)) (λ b. beyond_next (direction d) t w.square v b a) w.from

  -- the first piece decides
  line_first : (v : ℕ) → v < 64 → adjacent (direction d) w.square v ≡ true → (get_or codes v 0 ≡ 0 → ⊥) → slides side d (get_or codes v 0) ≡ line_hit side codes d t
  line_first v hv a full =
      same_tests _ _
      (λ h. (decides_line side codes d t).1
      (v, hv, (h, from_next v a, λ u hu b e. ⊎_elim (λ g. absurd (no_gap (direction d) w.square v u a g e)) (λ z. z) (w.passed u hu b))))
      (λ h. let p = (decides_line side codes d t).0 h in
      let s = p.0 in
      let x = p.2 in
      let ahead : beyond (direction d) w.square s ≡ true = ⊎_elim (λ g. g) (λ z. absurd (slides_zero side d _ x.0 z)) (w.passed s p.1 x.1) in
      ⊎_elim (λ (e : s ≡ v). rw e at x.0)
      (λ (n : s ≡ v → ⊥). absurd (full (x.2 v hv (from_next v a) (step (direction d) w.square v s a ahead n))))
      (cases_eq s v))

slides_border : (side : Side) (d : ℕ) → slides side d 255 ≡ false
unfolding slides
slides_border White d = grind (arith, nat_tests)
slides_border Black d = grind (arith, nat_tests)

module _ (side : Side) (cells : List ℕ) (border : Bordered cells) (d t k at : ℕ) (hd : d < 8) (w : Walked (codes_of cells) d t k at) where
  more : get_or cells (stepped d w.square) 0 ≡ 0 → Walked (codes_of cells) d t (k + 1) (stepped d w.square)
  more z =
      let u = w.square in
      let x = stepped d u in
      let hx = stepped_in d u hd w.on in
      ⊎_elim
      (λ (o : Inner cells x).
      let v = square_of x in
      let a = stepped_on d u hd w.on o.0 in
      record {
        square = v;
        on = o.0;
        here = sym (cell_of_square x hx o.0);
        far = further (direction d) u v k w.on o.0 a w.far;
        from = inr (from_next side (codes_of cells) d t k at w v a);
        passed = λ s hs b. ⊎_elim
            (λ g. ⊎_elim (λ (e : s ≡ v). inr (rw e (o.1 ∙ z))) (λ (n : s ≡ v → ⊥). inl (step (direction d) u v s a g n)) (cases_eq s v))
            inr (w.passed s hs b);
      })
      (λ (o : Outer cells x). absurd (let y = o.1 in omega arith))
      (read_cell cells border x hx)

  first : (get_or cells (stepped d w.square) 0 ≡ 0 → ⊥) → slides side d (get_or cells (stepped d w.square) 0) ≡ line_hit side (codes_of cells) d t
  first full =
      let u = w.square in
      let x = stepped d u in
      let hx = stepped_in d u hd w.on in
      ⊎_elim
      (λ (o : Inner cells x).
      ap (slides side d) (sym o.1)
      ∙ line_first side (codes_of cells) d t k at w (square_of x) o.0 (stepped_on d u hd w.on o.0) (λ z. full (sym o.1 ∙ z)))
      (λ (o : Outer cells x).
      ap (slides side d) o.1
      ∙ slides_border side d ∙ sym (line_none side (codes_of cells) d t k at w (λ s hs. stepped_off d u s hd w.on hs o.0)))
      (read_cell cells border x hx)

  -- the walk goes on over an empty cell, and ends at the first that is not, or at the furthest
  pub walk_more : (by : ℕ) → by ≡ get_or steps d 0 → get_or cells (at + by - 11) 0 ≡ 0 → Walked (codes_of cells) d t (k + 1) (at + by - 11)
  walk_more by e z = rw (e, w.here) (more (rw (e, w.here) at z))

  pub walk_first : (by : ℕ) → by ≡ get_or steps d 0 → (get_or cells (at + by - 11) 0 ≡ 0 → ⊥) → slides side d (get_or cells (at + by - 11) 0) ≡ line_hit side (codes_of cells) d t
  walk_first by e full = rw (e, w.here) (first (rw (e, w.here) at full))

  pub walk_end : 7 ≤ k → line_hit side (codes_of cells) d t ≡ false
  walk_end h =
      line_none side (codes_of cells) d t k at w
      (λ s hs. furthest (direction d) w.square s w.on hs (let f = w.far in omega arith))
