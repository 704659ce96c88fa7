use Rattle.std.proofs.Common.{ℕ, length, ap, arith, length-append}
use Rattle.game.specs.Words.{spaced}
use Rattle.sheet.proofs.word.keep.Goals as goal

pub push-requires : goal.push-requires
push-requires c =
    let all = ap length c.loop-word.invariant in
    let more = ap (λ ws. length (spaced ws)) c.in-Some-next_word.ensures.0 in
    omega (arith, c.requires, all, more, length-append {A = ℕ})

pub add-requires-in-Some-next_word : goal.add-requires-in-Some-next_word
add-requires-in-Some-next_word c =
    let all = ap length c.loop-word.invariant in
    let more = ap (λ ws. length (spaced ws)) c.in-Some-next_word.ensures.0 in
    omega (arith, c.requires, all, more, ap length c.push.ensures.items, length-append {A = ℕ})
