use Rattle.std.proofs.Common.{vec_items}
use Rattle.laws.specs.Position.{position_parts}
use Rattle.drawing.proofs.Listed.{first_legal, rest_legal, joined_written}
use Rattle.drawing.proofs.play.add_moves.Goals as goal

pub add_san-requires : goal.add_san-requires
add_san-requires g c = first_legal _ _ _ _ _ c.deref.ensures.value c.in-Some.ensures.cases.0 c.in_ok-moves.ensures.answer

pub add_spaced-requires : goal.add_spaced-requires
add_spaced-requires g c = rest_legal _ _ _ _ _ c.deref.ensures.value c.in-Some.ensures.cases.0 c.in_ok-moves.ensures.answer

pub returns : goal.returns
returns g c =
    joined_written (position_parts c.args.position.now) _ _ _ _ c.deref.ensures.value c.in-Some.ensures.cases.0 c.in_ok-moves.ensures.answer c.add_spaced.result
    (vec_items c.args.out.now) (vec_items c.add_san.new.out) (vec_items c.add_spaced.new.out) c.in_ok-add_san.ensures c.add_spaced.ensures
