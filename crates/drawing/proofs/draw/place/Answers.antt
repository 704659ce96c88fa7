use Rattle.std.proofs.Common.{◌≡◌, vec_items}
use Rattle.board.specs.Attack.{in_check}
use Rattle.laws.specs.Position.{position_parts}
use Rattle.drawing.specs.Drawing.{place_drawn, turn_drawn}
use Rattle.drawing.proofs.Chains.{five}
use Rattle.drawing.proofs.draw.place.Goals as goal

pub returns : goal.returns
unfolding place_drawn
returns g c =
    let p = position_parts c.args.position.now in
    let turn : c.turn.result.now ≡ turn_drawn p.side (in_check p.side p.codes) = cc in
    five c.extend_from_slice-3.result (vec_items c.args.out.now) (vec_items c.ranks.new.out) (vec_items c.extend_from_slice.new.self)
    (vec_items c.extend_from_slice-2.new.self) (vec_items c.fen_line.new.out) (vec_items c.extend_from_slice-3.new.self) _ _ _ _ _
    c.in_ok-ranks.ensures c.in_ok-extend_from_slice.ensures.items
    (rw turn at c.in_ok-extend_from_slice-2.ensures.items)
    c.in_ok-fen_line.ensures c.extend_from_slice-3.ensures.items
