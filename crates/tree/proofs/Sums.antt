-- Leaves counted move by move.
use Rattle.std.proofs.Common.{◌≡◌, ℕ, ◌+◌, ◌<◌, Bool, true, false, if◌then◌else◌, List, [], ◌∷◌, map, length, slice_index_or, Some, None, sum_by, Option, refl, ◌∙◌, subst, add-one, arith}
use Rattle.std.proofs.lemmas.List.{take_all}
use Rattle.std.proofs.lemmas.List.Sums.{sum_by-cons, sum_by_more}
use Rattle.rules.specs.Parts.{Parts}
use Rattle.rules.specs.Move as rules
use Rattle.rules.specs.After.{after}
use Rattle.rules.specs.Legal.{legal, legal_moves}
use Rattle.moves.specs.declared.action.Move.{Move}
use Rattle.moves.specs.Action.{plain}
use Rattle.moves.proofs.Listed.{listed_legal}
use Rattle.tree.specs.Leaves.{leaf_count}

-- the leaves behind a move
abbrev pub leaves_by : Parts → ℕ → Move → ℕ
leaves_by p n m = leaf_count (after p (plain m)) n

sum_by-map : (f : rules.Move → ℕ) (ms : List Move) → sum_by f (map plain ms) ≡ sum_by (λ m. f (plain m)) ms
sum_by-map f [] = refl
sum_by-map f (m ∷ ms) = let e = sum_by-map f ms in let s = sum_by-cons f (plain m) (map plain ms) in let t = sum_by-cons (λ x. f (plain x)) m ms in cc

-- the leaves from a position are those behind its legal moves
pub leaf_count-suc : (p : Parts) (n : ℕ) (ms : List Move) → map plain ms ≡ legal_moves p → leaf_count p (n + 1) ≡ sum_by (leaves_by p n) ms
unfolding leaf_count
leaf_count-suc p n ms e = rw (add-one, ← e) (sum_by-map (λ m. leaf_count (after p m) n) ms)

pub leaf_count-zero : (p : Parts) → leaf_count p 0 ≡ 1
unfolding leaf_count
leaf_count-zero p = refl

-- at the last move each leaf is a legal move
pub leaf_count-one : (p : Parts) (ms : List Move) → map plain ms ≡ legal_moves p → leaf_count p 1 ≡ length ms
leaf_count-one p ms e = leaf_count-suc p 0 ms e ∙ ones ms
  where
    ones : (ms : List Move) → sum_by (leaves_by p 0) ms ≡ length ms
    ones [] = refl
    ones (m ∷ ms) = let z = leaf_count-zero (after p (plain m)) in let s = sum_by-cons (leaves_by p 0) m ms in let e = ones ms in omega arith

-- what `after` gives at a move of the list
pub listed_after : (p : Parts) (ms : List Move) → map plain ms ≡ legal_moves p → (i : ℕ) → i < length ms → (m : Move) → m ≡ slice_index_or ms i m
    → (next : Option Parts) → next ≡ (if legal p (plain m) then Some (after p (plain m)) else None) → next ≡ Some (after p (plain (slice_index_or ms i m)))
listed_after p ms listed i h m is next e = let l = listed_legal p ms listed i m h in grind arith

-- what the count of the leaves rests on
pub ruleset leaf_counts = (leaf_count-zero, leaf_count-one, leaf_count-suc, listed_after, take_all, sum_by_more)
