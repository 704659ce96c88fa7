-- The list of legal moves, by its first and the rest.
use Rattle.std.proofs.Common.{◌≡◌, ℕ, suc, true, List, ◌∷◌, ◌++◌, map, Ok, Err, OnOk, Result, sym, ap, ◌∙◌, append_assoc, arith}
use Rattle.std.specs.List.{All}
use Rattle.std.proofs.lemmas.Simd.{map-map}
use Rattle.rules.specs.Parts.{Parts}
use Rattle.rules.specs.Legal.{legal, legal_moves}
use Rattle.moves.specs.declared.action.Move.{Move}
use Rattle.moves.specs.Action.{plain}
use Rattle.moves.proofs.Listed.{listed_legal}
use Rattle.san.specs.Written.{san}
use Rattle.drawing.specs.Drawing.{spaced, joined}

module _ (p : Parts) (items slice : List Move) (m : Move) (rest : List Move) (all : slice ≡ items) (parts : slice ≡ m ∷ rest) (are_legal : map plain items ≡ legal_moves p) where
  listed : map plain (m ∷ rest) ≡ legal_moves p
  listed = ap (map plain) (sym parts ∙ all) ∙ are_legal

  pub first_legal : legal p (plain m) ≡ true
  first_legal = listed_legal p (m ∷ rest) listed 0 m (omega arith)

  pub rest_legal : All (λ n. legal p (plain n) ≡ true) rest
  rest_legal k d h = listed_legal p (m ∷ rest) listed (suc k) d (omega arith)

  joined_listed : joined (map (san p) (legal_moves p)) ≡ san p (plain m) ++ spaced (map (λ n. san p (plain n)) rest)
  joined_listed = ap (λ ms. joined (map (san p) ms)) (sym listed) ∙ ap (λ ts. san p (plain m) ++ spaced ts) (map-map (san p) plain rest)

  -- the first written, and then the rest if that call succeeds
  pub joined_written : {A E : Type 0} (r : Result A E) (out next done : List ℕ) → next ≡ out ++ san p (plain m)
      → OnOk r (done ≡ next ++ spaced (map (λ n. san p (plain n)) rest)) → OnOk r (done ≡ out ++ joined (map (san p) (legal_moves p)))
  joined_written (Ok x) out next done f r = rw (r, f, joined_listed) (append_assoc out (san p (plain m)) _)
  joined_written (Err x) out next done f r = tt
