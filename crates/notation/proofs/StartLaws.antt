-- What a start is read as, case by case.
use Rattle.std.proofs.Common.{◌≡◌, ℕ, ◌≤◌, true, cond, List, Some, None, Ok, Err, Option, Result, sym, ap, ◌∙◌, arith}
use Rattle.std.specs.Option.{ok_or}
use Rattle.std.proofs.lemmas.Bool.Decides.{nat_tests}
use Rattle.faults.specs.declared.NotationFault.{NotationFault}
use Rattle.faults.specs.declared.NotationFault.TheVariants.{NotFen}
use Rattle.faults.specs.declared.LawsFault.TheVariants.{InNotation}
use Rattle.faults.specs.declared.SheetFault.TheVariants.{InLaws, Counters}
use Rattle.rules.specs.declared.breach.Breach.{Breach}
use Rattle.rules.specs.Breach.{breach_fault}
use Rattle.rules.specs.Lawful.{broken, judged}
use Rattle.rules.specs.Parts.{Parts}
use Rattle.notation.specs.Fen.{fen_parts}
use Rattle.notation.specs.Answers.{start_counters, started, start_of, start_answer}

not_read : (o : Option Parts) (e : NotationFault) → Err e ≡ ok_or o NotFen → start_of o ≡ Err (InLaws (InNotation e))
not_read None e h = let f : e ≡ NotFen = cc in ap (λ x. Err (InLaws (InNotation x))) (sym f)
not_read (Some p) e h = cc

was_read : (o : Option Parts) (p : Parts) → Ok p ≡ ok_or o NotFen → o ≡ Some p
was_read None p h = cc
was_read (Some q) p h = let f : q ≡ p = cc in ap Some f

was_judged : (o : Option Breach) (p q : Parts) → ◌≡◌ {A = Result Parts Breach} (Ok q) (elim o [ None ↦ Ok p | Some b ↦ Err b ]) → q ≡ p
was_judged None p q h = let f : q ≡ p = cc in f
was_judged (Some b) p q h = cc

pub start_none : (t : List ℕ) (e : NotationFault) → Err e ≡ ok_or (fen_parts t) NotFen → start_answer t ≡ Err (InLaws (InNotation e))
unfolding start_answer
start_none t e h = not_read (fen_parts t) e h

pub start_broken : (t : List ℕ) (p : Parts) (b : Breach) → Ok p ≡ ok_or (fen_parts t) NotFen → Err b ≡ judged p → start_answer t ≡ Err (breach_fault b)
unfolding start_answer
start_broken t p b h j = ap start_of (was_read (fen_parts t) p h) ∙ ap started (sym j)

pub record Started (t : List ℕ) (p q : Parts) : Type 0 where
  pub same : q ≡ p
  pub read : fen_parts t ≡ Some q
  pub answer : start_answer t ≡ cond (start_counters p.clock p.number) (Ok q) (Err Counters)

pub start_made : (t : List ℕ) (p q : Parts) → Ok p ≡ ok_or (fen_parts t) NotFen → Ok q ≡ judged p → Started t p q
unfolding start_answer
start_made t p q h j =
    let s = was_judged (broken p) p q j in
    let r = was_read (fen_parts t) p h in
    record {
      same = s;
      read = r ∙ ap Some (sym s);
      answer = ap start_of r ∙ ap started (sym j) ∙ ap (λ x. cond (start_counters x.clock x.number) (Ok q) (Err Counters)) s;
    }

pub counters_low : (clock number : ℕ) → start_counters clock number ≡ true → (clock ≤ 999) × (number ≤ 5000)
counters_low clock number e = (grind (arith, nat_tests), grind (arith, nat_tests))
