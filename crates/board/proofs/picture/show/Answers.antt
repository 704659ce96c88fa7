use Rattle.std.proofs.Common.{◌≡◌, ◌<◌, ltb, get_or, sym, refl, ap, ◌∙◌, add-one, arith}
use Rattle.std.proofs.lemmas.Bool.{cond-true, lt-ltb}
use Rattle.board.specs.Meaning.{put_below, put_list}
use Rattle.board.proofs.PutLaws.{put_same, put_all}
use Rattle.board.proofs.picture.show.Goals as goal
use Rattle.board.proofs.picture.show.Goals.{then-look-code, else-look-code}

pub loop-square-init : goal.loop-square-init
unfolding put_below
loop-square-init g c = refl

pub loop-square-preserved : goal.loop-square-preserved
unfolding put_below
loop-square-preserved g c =
    let codes = g.B.Board.codes in
    let i = c.loop-square.invariant in
    let s = c.loop-square.square in
    let h : s < 64 = omega arith in
    rw add-one
    (elim c.if-look-code.branch [
      | then-look-code w ↦ ap codes w.board-is ∙ w.put.ensures.list ∙ ap (λ x. put_list x s (get_or c.args.picture.now s 0)) i
      | else-look-code w ↦
          let same : get_or (codes c.loop-square.board) s 0 ≡ get_or c.args.picture.now s 0 =
          sym (cond-true (ltb s 64) _ 255 (lt-ltb s 64 h)) ∙ sym c.look.ensures ∙ w.if-look-code.false in
          ap codes w.board-is ∙ sym (put_same (codes c.loop-square.board) s _ same) ∙ ap (λ x. put_list x s (get_or c.args.picture.now s 0)) i
    ])

pub returns : goal.returns
returns g c =
    let i = c.loop-square.invariant in
    let picture = c.args.picture.now in
    let e : c.loop-square.square ≡ 64 = omega arith in
    let done = rw e at i in
    record { list = done; whole = λ shown. done ∙ put_all _ picture (g.met.B.Board.size c.args.board.now) shown }
