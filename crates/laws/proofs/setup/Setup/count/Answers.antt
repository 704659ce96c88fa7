use Rattle.std.proofs.Common.{◌≡◌, ℕ, ◌+◌, ◌%◌, ◌<◌, cond, eqb, List, [], ◌∷◌, length, true, false, ap, ◌∙◌, rules, arith}
use borrow.Author.Tests.{tests}
use Rattle.std.specs.List.{fold}
use Rattle.std.proofs.lemmas.Iterator.{YieldsList-from_slice}
use Rattle.std.proofs.lemmas.Iterator.Consumers.{fold_from_yields_List}
use Rattle.rules.specs.Lawful.{count}
use Rattle.laws.proofs.setup.Setup.count.Goals as goal

-- a byte that counts on where a code is the wanted one
abbrev counts_on : ℕ → ℕ → ℕ → ℕ
counts_on wanted found code = (found + cond (eqb code wanted) 1 0) % 256

one_more : (wanted found code : ℕ) → found < 255 → counts_on wanted found code ≡ found + cond (eqb code wanted) 1 0
one_more wanted found code few = by (eqb code wanted)
  where
    by : (b : _) → (found + cond b 1 0) % 256 ≡ found + cond b 1 0
    by true = omega arith
    by false = omega arith

counted_on : (wanted : ℕ) (codes : List ℕ) (found : ℕ) → found + length codes < 256 → fold (counts_on wanted) found codes ≡ found + count wanted codes
unfolding count
counted_on wanted [] found few = omega arith
counted_on wanted (code ∷ codes) found few =
    ap (λ (n : ℕ). fold (counts_on wanted) n codes) (one_more wanted found code (omega arith))
    ∙ counted_on wanted codes (found + cond (eqb code wanted) 1 0) (bound (eqb code wanted))
    ∙ omega arith
  where
    bound : (b : _) → found + cond b 1 0 + length codes < 256
    bound true = omega arith
    bound false = omega arith

pub returns : goal.returns
returns c =
    let codes = c.args.self.now.codes in
    let wanted = c.args.wanted in
    let size : length codes ≡ 64 = search rules in
    fold_from_yields_List _ (counts_on wanted) 0 c.fold.result c.fold.ensures.ran (YieldsList-from_slice codes cc) (λ a x b q k. search (rules, tests))
    ∙ counted_on wanted codes 0 (omega arith) ∙ omega arith
