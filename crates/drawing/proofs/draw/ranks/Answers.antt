use Rattle.std.proofs.Common.{◌≡◌, ◌-◌, vec_items, suc, sym, append_assoc, arith}
use Rattle.std.proofs.lemmas.List.{append-nil}
use Rattle.drawing.specs.Drawing.{ranks_drawn}
use Rattle.drawing.proofs.draw.ranks.Goals as goal

pub loop-index-init : goal.loop-index-init
unfolding ranks_drawn
loop-index-init c = sym (append-nil (vec_items c.args.out.now))

pub loop-index-preserved : goal.loop-index-preserved
unfolding ranks_drawn
loop-index-preserved c =
    let n : 8 - (c.loop-index.index - 1) ≡ suc (8 - c.loop-index.index) = omega arith in
    let r : c.loop-index.index - 1 ≡ 7 - (8 - c.loop-index.index) = omega arith in
    let i = c.loop-index.invariant in
    let w = c.in_ok-rank.ensures in
    rw n (simp (w, i, r, append_assoc))
