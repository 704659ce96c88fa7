use Rattle.std.proofs.Common.{Err, ap, ◌∙◌}
use Rattle.std.proofs.lemmas.Result.{err_from_is_err_and}
use Rattle.laws.specs.Position.{position_parts}
use Rattle.san.specs.Text.{read_text, move_answer}
use Rattle.san.proofs.Sans.{reads_back}
use Rattle.movetext.specs.Said.{text_said}
use Rattle.movetext.specs.Found.{found}
use Rattle.movetext.proofs.Finding.{answered, unanswered}
use Rattle.movetext.proofs.find.answer.Goals as goal

pub returns-in_err-read-clause-answer : goal.returns-in_err-read-clause-answer
unfolding move_answer
returns-in_err-read-clause-answer g c =
    let e = err_from_is_err_and c.from_residual.result c.from_residual.ensures.1 in
    ap found (e.1 ∙ ap Err e.2) ∙ unanswered (position_parts c.args.position.now) (read_text c.args.text.now) _ c.in_err-read.ensures

pub returns-in_err-read-clause-back : goal.returns-in_err-read-clause-back
returns-in_err-read-clause-back g c m l = reads_back (position_parts c.args.position.now) m c.args.position.now.ok l

pub returns-clause-answer : goal.returns-clause-answer
unfolding move_answer
returns-clause-answer g c = c.find.ensures.answer ∙ answered (position_parts c.args.position.now) _ (text_said c.in_ok-read.field-0) c.in_ok-read.ensures

pub returns-clause-back : goal.returns-clause-back
returns-clause-back g c m l = reads_back (position_parts c.args.position.now) m c.args.position.now.ok l
