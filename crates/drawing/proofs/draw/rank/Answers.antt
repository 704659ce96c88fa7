use Rattle.std.proofs.Common.{◌≡◌, ℕ, ◌+◌, ◌*◌, ◌<◌, List, vec_items, slice_index, take, drop, sym, ap, ◌∙◌, append_assoc, add-one, arith}
use Rattle.std.proofs.lemmas.List.{append-nil, get_or-take, get_or-drop}
use Rattle.board.specs.Piece.{letter}
use Rattle.drawing.specs.Drawing.{squares_drawn}
use Rattle.drawing.proofs.draw.rank.Goals as goal

-- a square of a rank, in the list of all squares
letter_at : (codes : List ℕ) (first rank n i r : ℕ) → first ≡ rank → i < n → r ≡ letter (slice_index (take n (drop (8 * first) codes)) i) → r ≡ letter (slice_index codes (8 * rank + i))
letter_at codes first rank n i r e h l = l ∙ ap letter (get_or-take n (drop (8 * first) codes) i 0 h ∙ get_or-drop (8 * first) codes i 0 ∙ ap (λ f. slice_index codes (8 * f + i)) e)

pub loop-code-init : goal.loop-code-init
unfolding squares_drawn
loop-code-init c = sym (append-nil (vec_items c.extend_from_slice.new.self))

pub loop-code-preserved : goal.loop-code-preserved
unfolding squares_drawn
loop-code-preserved c =
    let i = c.loop-code.invariant in
    let w = c.in_ok-extend_from_slice-2.ensures.items in
    let l = letter_at c.args.codes.now c.from-first.result c.args.rank _ c.loop-code.code-index c.letter.result c.from-first.ensures (omega arith) c.letter.ensures in
    rw add-one (simp (w, i, l, append_assoc))
