use Rattle.std.proofs.Common.{◌≡◌, [], ◌∷◌, ◌++◌, length, ap, ◌∙◌, arith}
use Rattle.notation.specs.Fields.{rank_text, rank_end}
use Rattle.notation.proofs.Laying.{ranks_none, ranks_more, ranks_end}
use Rattle.notation.proofs.fen.lay.placement.Goals as goal

pub loop-row-init : goal.loop-row-init
loop-row-init c = record { count = cc; laid = ranks_none c.args.text.now.items c.args.codes.now _ (omega arith) (cc (c.as_chunks.ensures.front)) }

pub loop-row-preserved : goal.loop-row-preserved
loop-row-preserved c =
    let s = c.in-Some.ensures.steps in
    let row : c.in-Some.row ≡ length c.next.new.self.iter.iter.rest.now = omega (arith, c.loop-row.invariant.count, s.1.1) in
    record {
      count = s.0 ∙ c.loop-row.invariant.count;
      laid = ranks_more c.loop-row.invariant.laid c.push.new.self.items _ c.in-Some.squares.now s.1.0
          (c.push.ensures.items ∙ ap (λ x. x ++ (c.rank_end.result ∷ [])) c.rank.ensures.items
          ∙ ap (λ x. (c.loop-row.text.items ++ rank_text 0 c.in-Some.squares.now) ++ (x ∷ [])) (c.rank_end.ensures ∙ ap rank_end row))
          (omega (arith, c.push.ensures.len, c.rank.ensures.len));
    }

pub returns : goal.returns
returns c =
    let z = c.in-None.ensures.steps.1.0 in
    let s = c.loop-row.invariant.laid.size in
    record { items = ranks_end c.loop-row.invariant.laid z; len = omega arith }
