-- The number of every fault, and the layer of every number.
use Rattle.std.specs.Prelude.{ℕ, cond, nat_lt}
use Rattle.faults.specs.declared.TextFault.{TextFault}
use Rattle.faults.specs.declared.TextFault.TheVariants.{TooLong, NoToken, OpenBrace, TagPair, Ended}
use Rattle.faults.specs.declared.NotationFault.{NotationFault}
use Rattle.faults.specs.declared.NotationFault.TheVariants.{TagName, TagValue, NotFen, NotMoveText, NotGlyph, BadRemark, NoWord, NotResult, InText}
use Rattle.faults.specs.declared.LawsFault.{LawsFault}
use Rattle.faults.specs.declared.LawsFault.TheVariants.{Unlawful, NoMatch, SeveralMatch, WrongResult, InNotation}
use Rattle.faults.specs.declared.SheetFault.{SheetFault}
use Rattle.faults.specs.declared.SheetFault.TheVariants.{Settled, ItemsFull, RemarksFull, ReservedTag, TaggedTwice, TagsFull, Counters, NoMove, BranchesFull, NoBranch, BranchOpen, NoItem, BufferShort, ResultDiffers, InLaws}

abbrev pub text_number : TextFault → ℕ
text_number TooLong = 11
text_number NoToken = 12
text_number OpenBrace = 13
text_number TagPair = 14
text_number Ended = 15

abbrev pub notation_number : NotationFault → ℕ
notation_number TagName = 21
notation_number TagValue = 22
notation_number NotFen = 23
notation_number NotMoveText = 24
notation_number NotGlyph = 25
notation_number BadRemark = 26
notation_number NoWord = 27
notation_number NotResult = 28
notation_number (InText cause) = text_number cause

abbrev pub laws_number : LawsFault → ℕ
laws_number Unlawful = 31
laws_number NoMatch = 32
laws_number SeveralMatch = 33
laws_number WrongResult = 34
laws_number (InNotation cause) = notation_number cause

abbrev pub sheet_number : SheetFault → ℕ
sheet_number Settled = 42
sheet_number ItemsFull = 43
sheet_number RemarksFull = 44
sheet_number ReservedTag = 45
sheet_number TaggedTwice = 46
sheet_number TagsFull = 47
sheet_number Counters = 48
sheet_number NoMove = 49
sheet_number BranchesFull = 50
sheet_number NoBranch = 51
sheet_number BranchOpen = 52
sheet_number NoItem = 53
sheet_number BufferShort = 55
sheet_number ResultDiffers = 56
sheet_number (InLaws cause) = laws_number cause

-- the tens of a number tell its layer, and everything from 40 on is the sheet's
abbrev pub layer_of : ℕ → ℕ
layer_of n = cond (nat_lt n 20) 1 (cond (nat_lt n 30) 2 (cond (nat_lt n 40) 3 4))
