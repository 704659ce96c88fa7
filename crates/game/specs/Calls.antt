-- The calls on a score: what refuses each, and what each does to the record.
use Rattle.std.specs.Prelude.{ℕ, ◌+◌, ◌-◌, Bool, not, List, [], ◌∷◌, length, take, Some, None, Ok, Err, Option, Result, ◌==◌, nat_le, nat_lt}
use Rattle.std.specs.Option.{option_or}
use Rattle.faults.specs.declared.NotationFault.TheVariants.{NotGlyph, BadRemark, NoWord}
use Rattle.faults.specs.declared.LawsFault.{LawsFault}
use Rattle.faults.specs.declared.LawsFault.TheVariants.{InNotation, WrongResult}
use Rattle.faults.specs.declared.SheetFault.{SheetFault}
use Rattle.faults.specs.declared.SheetFault.TheVariants.{Settled, ItemsFull, RemarksFull, NoMove, BranchesFull, NoBranch, BranchOpen, NoItem, InLaws}
use Rattle.rules.specs.Move.{Move}
use Rattle.san.specs.Text.{move_answer}
use Rattle.game.specs.declared.outcome.Outcome.{Outcome}
use Rattle.game.specs.Record.{move, glyph, remark, opening, ending, Game, with_items, with_result, added, remark_bytes, most_items, most_remark_bytes, most_branches}
use Rattle.game.specs.Lines.{Place, place, has_move}
use Rattle.game.specs.Words.{words, is_bad_remark, no_words, kept}
use Rattle.game.specs.Results.{first, is_closed, is_wrong}

-- a call: play a move text, add a glyph by its number or a remark, open a branch or leave it, strike the last item, settle the result
pub data Call : Type 0 where
  play : List ℕ → Call
  add_glyph : ℕ → Call
  add_remark : List ℕ → Call
  branch : Call
  leave : Call
  strike : Call
  settle : Outcome → Call

-- what calls are judged by: whether the result is settled, how many items there are, how many bytes their remarks have, and where they lead
pub record State : Type 0 where
  pub settled : Bool
  pub items : ℕ
  pub remarked : ℕ
  pub place : Place

abbrev pub state : Game → State
state g = record { settled = is_closed g.result; items = length g.items; remarked = length (remark_bytes g.items); place = place g }

abbrev pub full : State → Bool
full s = nat_le most_items s.items

abbrev pub no_move : State → Bool
no_move s = not (has_move s.place.current)

-- the fault of a move text at the present position
abbrev pub play_fault : Result Move LawsFault → Option SheetFault
play_fault (Ok m) = None
play_fault (Err f) = Some (InLaws f)

-- what refuses a call: its first case that holds
unfoldable pub refused : Call → State → Option SheetFault
refused (play t) s = option_or (first ((s.settled, Settled) ∷ (full s, ItemsFull) ∷ [])) (play_fault (move_answer s.place.current.here t))
refused (add_glyph n) s = first ((s.settled, Settled) ∷ (full s, ItemsFull) ∷ (nat_lt 255 n, InLaws (InNotation NotGlyph)) ∷ (no_move s, NoMove) ∷ [])
refused (add_remark t) s = first (
    (s.settled, Settled) ∷ (is_bad_remark t, InLaws (InNotation BadRemark)) ∷ (no_words (words t), InLaws (InNotation NoWord)) ∷ (full s, ItemsFull)
    ∷ (nat_lt most_remark_bytes (s.remarked + length (kept t)), RemarksFull) ∷ [])
refused branch s = first ((s.settled, Settled) ∷ (full s, ItemsFull) ∷ (nat_le most_branches (length s.place.around), BranchesFull) ∷ (no_move s, NoMove) ∷ [])
refused leave s = first ((s.settled, Settled) ∷ ((length s.place.around == 0), NoBranch) ∷ (no_move s, NoMove) ∷ (full s, ItemsFull) ∷ [])
refused strike s = first ((s.settled, Settled) ∷ ((s.items == 0), NoItem) ∷ [])
refused (settle r) s = first ((not (length s.place.around == 0), BranchOpen) ∷ (is_wrong s.place.current.here r, InLaws WrongResult) ∷ [])

abbrev pub refusal : Call → Game → Option SheetFault
refusal c g = refused c (state g)

-- the move that a text plays
abbrev pub with_move : Game → Result Move LawsFault → Game
with_move g (Ok m) = added g (move m)
with_move g (Err f) = g

-- what a call does when it is not refused
unfoldable pub done : Call → Game → Game
done (play t) g = with_move g (move_answer (place g).current.here t)
done (add_glyph n) g = added g (glyph n)
done (add_remark t) g = added g (remark (kept t))
done branch g = added g opening
done leave g = added g ending
done strike g = with_items g (take (length g.items - 1) g.items)
done (settle r) g = with_result g r

-- the record after a call: refused, as before
abbrev pub step : Call → Game → Game
step c g = elim (refusal c g) [ None ↦ done c g | Some f ↦ g ]

-- after a list of calls, each done or refused
abbrev pub run : List Call → Game → Game
run [] g = g
run (c ∷ cs) g = run cs (step c g)
