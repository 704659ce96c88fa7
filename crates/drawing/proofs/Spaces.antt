-- Texts with spaces, one more and at their end.
use Rattle.std.proofs.Common.{◌≡◌, ℕ, ◌+◌, ◌<◌, ◌≤◌, List, [], ◌∷◌, ◌++◌, map, length, drop, slice_index_or, sym, ap, ◌∙◌, append_assoc}
use Rattle.std.proofs.lemmas.List.{append-nil, drop_more, drop_all}
use Rattle.drawing.specs.Drawing.{spaced}

module _ {X : Type 0} (f : X → List ℕ) where
  pub spaced_more : (xs : List X) (i : ℕ) (x : X) (out next more all : List ℕ) → i < length xs → x ≡ slice_index_or xs i x
      → out ++ spaced (map f (drop i xs)) ≡ all → next ≡ out ++ (32 ∷ []) → more ≡ next ++ f x → more ++ spaced (map f (drop (i + 1) xs)) ≡ all
  unfolding spaced
  spaced_more xs i x out next more all h e w n m =
      let d : drop i xs ≡ x ∷ drop (i + 1) xs = drop_more xs i x h ∙ ap (λ y. y ∷ drop (i + 1) xs) (sym e) in
      let t : List ℕ = spaced (map f (drop (i + 1) xs)) in
      rw (m, n) (append_assoc (out ++ (32 ∷ [])) (f x) t ∙ append_assoc out (32 ∷ []) (f x ++ t)) ∙ ap (λ ys. out ++ spaced (map f ys)) (sym d) ∙ w

  pub spaced_all : (xs : List X) (i : ℕ) (out all : List ℕ) → length xs ≤ i → out ++ spaced (map f (drop i xs)) ≡ all → out ≡ all
  unfolding spaced
  spaced_all xs i out all h w = sym (append-nil out) ∙ ap (λ ys. out ++ spaced (map f ys)) (sym (drop_all i xs h)) ∙ w
