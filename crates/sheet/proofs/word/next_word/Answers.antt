use Rattle.std.proofs.Common.{ap, drop, length, ◌∙◌, arith}
use Rattle.sheet.proofs.WordLaws.{none_left, word_found}
use Rattle.sheet.proofs.word.next_word.Goals as goal

pub returns-then-is_empty : goal.returns-then-is_empty
returns-then-is_empty c =
    none_left c.args.text.now c.split_at.result.1.now (c.split_at.ensures.back ∙ ap (λ n. drop n c.args.text.now) c.leading_blanks.ensures.value) (grind arith)

pub returns : goal.returns
returns c =
    let f = word_found c.args.text.now c.split_at.result.1.now c.before_blank.result
    (c.split_at.ensures.back ∙ ap (λ n. drop n c.args.text.now) c.leading_blanks.ensures.value) (grind arith) c.before_blank.ensures.value in
    let e = c.split_at-2.ensures.front in
    let b = c.split_at-2.ensures.back in
    (cc (f.0, e, b), omega (arith, f.1, ap length e), omega (arith, f.2, ap length e, ap length b))
