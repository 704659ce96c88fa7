-- The fault that a broken law is: counters out of range are a start's own, every other law is one of chess.
use Rattle.faults.specs.declared.SheetFault.{SheetFault}
use Rattle.faults.specs.declared.SheetFault.TheVariants.{InLaws, Counters}
use Rattle.faults.specs.declared.LawsFault.TheVariants.{Unlawful}
use Rattle.rules.specs.declared.breach.Breach.{Breach}
use Rattle.rules.specs.declared.breach.Breach.TheVariants as breach

abbrev pub breach_fault : Breach → SheetFault
breach_fault breach.Codes = InLaws Unlawful
breach_fault breach.Kings = InLaws Unlawful
breach_fault breach.Pawns = InLaws Unlawful
breach_fault breach.Check = InLaws Unlawful
breach_fault breach.Rights = InLaws Unlawful
breach_fault breach.EnPassant = InLaws Unlawful
breach_fault breach.Counters = Counters
