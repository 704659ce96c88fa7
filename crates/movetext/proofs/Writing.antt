-- Rivals, by what the code wrote of each square.
use Rattle.std.proofs.Common.{◌≡◌, ℕ, ◌<◌, Bool, false, eqb, List, map, get_or, ap, ◌∙◌, arith}
use Rattle.std.specs.List.{range_with_len}
use Rattle.std.proofs.lemmas.List.FromFn.{get_or-map-range_with_len}
use Rattle.board.specs.Below.{some_below, ◌and_then◌}
use Rattle.board.specs.Geometry.{file, rank}
use Rattle.board.proofs.BelowLaws.{some_same}
use Rattle.rules.specs.Parts.{Parts}
use Rattle.rules.specs.Move.{Move}
use Rattle.san.specs.Said.{rival_on, rival, rival_on_file, rival_on_rank}

module _ (p : Parts) (m : Move) (found : List Bool) (e : found ≡ map (rival_on p m) (range_with_len 0 64)) where
  at : (s : ℕ) → s < 64 → get_or found s false ≡ rival_on p m s
  at s h = ap (λ l. get_or l s false) e ∙ get_or-map-range_with_len (rival_on p m) 0 64 s s false h (omega arith)

  pub rival_any : (r : Bool) → r ≡ some_below 64 (λ s. get_or found s false) → r ≡ rival p m
  unfolding rival
  rival_any r t = t ∙ some_same 64 _ _ at

  pub rival_file : (r : Bool) → r ≡ some_below 64 (λ s. eqb (file s) (file m.from) and_then get_or found s false) → r ≡ rival_on_file p m
  unfolding rival_on_file
  rival_file r t = t ∙ some_same 64 _ _ (λ s h. ap (λ b. eqb (file s) (file m.from) and_then b) (at s h))

  pub rival_rank : (r : Bool) → r ≡ some_below 64 (λ s. eqb (rank s) (rank m.from) and_then get_or found s false) → r ≡ rival_on_rank p m
  unfolding rival_on_rank
  rival_rank r t = t ∙ some_same 64 _ _ (λ s h. ap (λ b. eqb (rank s) (rank m.from) and_then b) (at s h))
