-- The castling texts by their bytes are those that SAN spells.
use Rattle.std.proofs.Common.{◌≡◌, ℕ, suc, ◌≤◌, true, false, List, [], ◌∷◌, ◌++◌, reverse, length, drop, Some, None, codes as bytes, Option, sym, refl, ap, ◌∙◌, subst, inl, inr, arith, rules}
use Rattle.std.proofs.lemmas.Slice.Eq.{text_from_reads}
use Rattle.std.specs.Option.{option_or}
use Rattle.san.specs.Said.{Said, castling, going}
use Rattle.san.specs.Text.{is_check_mark, without_first, read_promotion, read_castling, read_text, CheckMark, Spells, piece, kingside, queenside}
use Rattle.san.proofs.Sans.{reads_spelling}
use Rattle.rules.specs.declared.rights.Wing.{Wing}
use Rattle.rules.specs.declared.rights.Wing.TheVariants.{Kingside, Queenside}
use Rattle.movetext.specs.Said.{is_queenside}
use Rattle.movetext.specs.Castling.{ReadsAt, Ends, Ended, Castles}

reads_rest : (x : ℕ) (s : List ℕ) (i : ℕ) (p : List ℕ) → ReadsAt (x ∷ s) (suc i) p → ReadsAt s i p
reads_rest x s i [] h = tt
reads_rest x s i (c ∷ p) (e, h) = (e, reads_rest x s (suc i) p h)

-- a text that begins with p
begins : (p s : List ℕ) → length p ≤ length s → ReadsAt s 0 p → s ≡ p ++ drop (length p) s
begins [] s l h = refl
begins (c ∷ p) [] l h = absurd (omega arith)
begins (c ∷ p) (x ∷ s) l (e, h) = let w = begins p s (omega arith) (reads_rest x s 0 p h) in λ i. e i ∷ w i

ends_mark : (c : List ℕ) → Ends c → CheckMark c
ends_mark [] h = inl refl
ends_mark (x ∷ c) (inl l) = absurd (omega arith)
ends_mark (x ∷ c) (inr (inl (l, h))) = inr (inl (text_from_reads (x ∷ c) (bytes "+") l h))
ends_mark (x ∷ c) (inr (inr (l, h))) = inr (inr (text_from_reads (x ∷ c) (bytes "#") l h))

mark_ends : (c : List ℕ) → CheckMark c → Ends c
mark_ends c (inl e) = inl (ap length e)
mark_ends c (inr (inl e)) = rw e (inr (inl (refl, (refl, tt))))
mark_ends c (inr (inr e)) = rw e (inr (inr (refl, (refl, tt))))

spelled : (p s : List ℕ) (d : Said) → ((c : List ℕ) → CheckMark c → Spells (p ++ c) d) → Ended p s → Spells s d
spelled p s d h ((l, r), m) = subst (λ (w : List ℕ). Spells w d) (sym (begins p s l r)) (h (drop (length p) s) (ends_mark _ m))

castles_spells : (w : Wing) (s : List ℕ) → Castles w s → Spells s (castling (is_queenside w))
castles_spells Kingside s (inl h) = spelled (bytes "O-O") s (castling false) (λ c m. kingside (bytes "O-O") c (inl refl) m) h
castles_spells Kingside s (inr h) = spelled (bytes "0-0") s (castling false) (λ c m. kingside (bytes "0-0") c (inr refl) m) h
castles_spells Queenside s (inl h) = spelled (bytes "O-O-O") s (castling true) (λ c m. queenside (bytes "O-O-O") c (inl refl) m) h
castles_spells Queenside s (inr h) = spelled (bytes "0-0-0") s (castling true) (λ c m. queenside (bytes "0-0-0") c (inr refl) m) h

pub castles_read : (w : Wing) (s : List ℕ) → Castles w s → read_text s ≡ Some (castling (is_queenside w))
castles_read w s h = (reads_spelling s (castling (is_queenside w))).1 (castles_spells w s h)

-- what is spelled is a castling text or the move of a piece
either_spelled : (s : List ℕ) (d : Said) → Spells s d → ((w : Wing) → Castles w s → ⊥)
    → ((k : ℕ) (f r : Option ℕ) (t q : ℕ) → d ≡ going k f r t q → ⊥) → ⊥
either_spelled s d (piece k f r x t q p c l h u v i hp hc) never g = g k f r t q refl
either_spelled s d (kingside o c (inl e) m) never g = never Kingside (rw e (inl (search rules, mark_ends c m)))
either_spelled s d (kingside o c (inr e) m) never g = never Kingside (rw e (inr (search rules, mark_ends c m)))
either_spelled s d (queenside o c (inl e) m) never g = never Queenside (rw e (inl (search rules, mark_ends c m)))
either_spelled s d (queenside o c (inr e) m) never g = never Queenside (rw e (inr (search rules, mark_ends c m)))

only_castling : (xs : List ℕ) (k : ℕ) (f r : Option ℕ) (t q : ℕ) → read_castling xs ≡ Some (going k f r t q) → ⊥
unfolding read_castling
only_castling xs k f r t q e = grind arith

-- a text that is no castling text says the move of a piece, if it says anything
pub piece_read : (s : List ℕ) → ((w : Wing) → Castles w s → ⊥) → read_text s ≡ read_promotion (without_first is_check_mark (reverse s))
unfolding read_text
piece_read s never = by (read_promotion xs) refl
  where
    xs : List ℕ
    xs = without_first is_check_mark (reverse s)

    no_castling : (o : Option Said) → read_promotion xs ≡ None → read_castling xs ≡ o → o ≡ None
    no_castling None p z = refl
    no_castling (Some d) p z =
        let spells = (reads_spelling s d).0 (ap (λ o. option_or o (read_castling xs)) p ∙ z) in
        absurd (either_spelled s d spells never (λ k f r t q g. only_castling xs k f r t q (z ∙ ap {B = Option Said} Some g)))

    by : (o : Option Said) → read_promotion xs ≡ o → option_or o (read_castling xs) ≡ o
    by None p = no_castling (read_castling xs) p refl
    by (Some d) p = refl
