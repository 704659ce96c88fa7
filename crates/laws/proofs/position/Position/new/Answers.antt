use Rattle.std.proofs.Common.{◌≡◌, ℕ, true, Some, None, Ok, Option, refl, arith}
use Rattle.rules.specs.declared.breach.Breach.{Breach}
use Rattle.rules.specs.Parts.{Parts}
use Rattle.rules.specs.Lawful.{broken, lawful}
use Rattle.rules.proofs.LawfulLaws.{lawful_from}
use Rattle.laws.specs.Judged.{unless}
use Rattle.laws.proofs.position.Position.new.Goals as goal

unbroken : (law : Option Breach) → Ok tt ≡ unless law → law ≡ None
unbroken None e = refl
unbroken (Some b) e = let z : ◌≡◌ {A = ℕ} 0 1 = cc in absurd (omega arith)

lawful_unless : (p : Parts) → Ok tt ≡ unless (broken p) → lawful p ≡ true
lawful_unless p e = lawful_from p (unbroken _ e)

pub invariant_of-result : goal.invariant_of-result
invariant_of-result g c = record { ok = grind (arith, lawful_unless) }
