-- The moves of the list are legal.
use Rattle.std.proofs.Common.{◌≡◌, Bool, true, false, List, [], ◌∷◌, map, refl, subst, arith}
use Rattle.std.specs.List.{All}
use Rattle.std.proofs.Math.ListN.{get_or-map}
use Rattle.std.proofs.lemmas.List.{length-map}
use Rattle.std.proofs.lemmas.List.Elements.{All-nil, All-cons, All-same}
use Rattle.rules.specs.Parts.{Parts}
use Rattle.rules.specs.Move as rules
use Rattle.rules.specs.Legal.{keep, legal, legal_moves}
use Rattle.moves.specs.declared.action.Move.{Move}
use Rattle.moves.specs.Action.{plain}

-- what is kept passes
kept_passes : (f : rules.Move → Bool) (xs : List rules.Move) → All (λ x. f x ≡ true) (keep f xs)
unfolding keep
kept_passes f [] = All-nil (λ x. f x ≡ true)
kept_passes f (x ∷ xs) = one (f x) refl (kept_passes f xs)
  where
    one : (b : Bool) → f x ≡ b → All (λ x. f x ≡ true) (keep f xs) → All (λ x. f x ≡ true) (elim b [ true ↦ x ∷ keep f xs | false ↦ keep f xs ])
    one true e h = All-cons (λ x. f x ≡ true) x (keep f xs) e h
    one false e h = h

pub listed_legal : (p : Parts) (ms : List Move) → map plain ms ≡ legal_moves p → All (λ m. legal p (plain m) ≡ true) ms
unfolding legal_moves
listed_legal p ms e i d h =
    let l = length-map ms plain in
    subst (λ m. legal p m ≡ true) (get_or-map plain ms i d) (All-same (λ m. legal p m ≡ true) _ _ e (kept_passes (legal p) _) i (plain d) (omega arith))
