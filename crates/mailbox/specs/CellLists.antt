-- What a write to a cell does to the codes and the border.
use Rattle.std.specs.Prelude.{◌≡◌, ℕ, ◌<◌, ◌≤◌, ◌≢◌, ◌⊎◌, List, length, replicate, slice_index, slice_set}
use Rattle.std.proofs.Common.{sym, ap, ◌∙◌, inl, inr, ⊎_elim, arith}
use Rattle.std.proofs.lemmas.List.{get_or-set_same, get_or-set_other, length-set, ext_get_or, get_or_past, get_or-replicate}
use Rattle.std.proofs.lemmas.List.FromFn.{length-map-range_with_len, get_or-map-range_with_len}
use Rattle.std.proofs.lemmas.Bool.{cases_eq, cases_lt}
use Rattle.mailbox.specs.Cells.{cell_of, square_of, at_square, codes_of, Bordered, Coded}
use Rattle.board.specs.Meaning.{empty_board}
use Rattle.mailbox.specs.CellFacts.{square_of_cell, cell_in, cell_of_square, square_of_le}

pub length_codes : (cells : List ℕ) → length (codes_of cells) ≡ 64
unfolding codes_of
length_codes cells = length-map-range_with_len (at_square cells) 0 64

pub codes_at : (cells : List ℕ) (s : ℕ) → s < 64 → slice_index (codes_of cells) s ≡ at_square cells s
unfolding codes_of
codes_at cells s h = get_or-map-range_with_len (at_square cells) 0 64 s s 0 h (omega arith)

pub codes_small : (cells : List ℕ) → Coded cells → (s : ℕ) → slice_index (codes_of cells) s ≤ 12
codes_small cells coded s =
    ⊎_elim (λ (h : s < 64). rw (codes_at cells s h) (coded s h))
    (λ (h : 64 ≤ s). let l = length_codes cells in let p = get_or_past (codes_of cells) s 0 (omega arith) in omega arith) (cases_lt s 64)

module _ (cells : List ℕ) (s v : ℕ) (in' : s < 64) where
  pub border_kept : Bordered cells → Bordered (slice_set cells (cell_of s) v)
  border_kept b c h e =
      let ne : c ≢ cell_of s = λ (q : c ≡ cell_of s). let z = square_of_cell s in' in let y = ap square_of q in omega arith in
      get_or-set_other cells (cell_of s) c v 0 ne ∙ b c h e

  pub at_same : length cells ≡ 120 → at_square (slice_set cells (cell_of s) v) s ≡ v
  at_same l = let i = cell_in s in' in get_or-set_same cells (cell_of s) v 0 (omega arith)

  pub at_other : (u : ℕ) → u < 64 → u ≢ s → at_square (slice_set cells (cell_of s) v) u ≡ at_square cells u
  at_other u k d =
      let ne : cell_of u ≢ cell_of s = λ (q : cell_of u ≡ cell_of s). d (sym (square_of_cell u k) ∙ ap square_of q ∙ square_of_cell s in') in
      get_or-set_other cells (cell_of s) (cell_of u) v 0 ne

  pub coded_kept : length cells ≡ 120 → v ≤ 12 → Coded cells → Coded (slice_set cells (cell_of s) v)
  coded_kept l hv coded u k =
      ⊎_elim (λ (e : u ≡ s). rw e (rw (at_same l) hv)) (λ (d : u ≡ s → ⊥). rw (at_other u k d) (coded u k)) (cases_eq u s)

  pub codes_set : length cells ≡ 120 → codes_of (slice_set cells (cell_of s) v) ≡ slice_set (codes_of cells) s v
  codes_set l =
      let lc = length_codes cells in
      ext_get_or 0 _ _ (length_codes _ ∙ sym (length-set (codes_of cells) s v ∙ lc))
      (λ u h. let k : u < 64 = let z = length_codes (slice_set cells (cell_of s) v) in omega arith in
      codes_at _ u k
      ∙ ⊎_elim
      (λ (e : u ≡ s). rw e (at_same l ∙ sym (get_or-set_same (codes_of cells) s v 0 (omega arith))))
      (λ (d : u ≡ s → ⊥). at_other u k d ∙ sym (get_or-set_other (codes_of cells) s u v 0 d ∙ codes_at cells u k))
      (cases_eq u s))

pub codes_zero : (cells : List ℕ) → ((s : ℕ) → s < 64 → at_square cells s ≡ 0) → codes_of cells ≡ empty_board
unfolding empty_board
codes_zero cells z =
    ext_get_or 0 (codes_of cells) (replicate 64 0) (length_codes cells)
    (λ u h. let k : u < 64 = let y = length_codes cells in omega arith in
    codes_at cells u k ∙ z u k ∙ sym (get_or-replicate 64 u 0 0 k))

-- what a cell holds: the code of a square, or the border mark
abbrev pub Inner : List ℕ → ℕ → Type 0
Inner cells x = (square_of x < 64) × (slice_index (codes_of cells) (square_of x) ≡ slice_index cells x)

abbrev pub Outer : List ℕ → ℕ → Type 0
Outer cells x = (64 ≤ square_of x) × (slice_index cells x ≡ 255)

pub read_cell : (cells : List ℕ) → Bordered cells → (x : ℕ) → x < 120 → Inner cells x ⊎ Outer cells x
read_cell cells border x h =
    ⊎_elim (λ (i : square_of x < 64). inl (i, codes_at cells (square_of x) i ∙ ap (λ y. slice_index cells y) (cell_of_square x h i)))
    (λ (o : 64 ≤ square_of x). let l = square_of_le x h in inr (o, border x h (omega arith))) (cases_lt (square_of x) 64)
