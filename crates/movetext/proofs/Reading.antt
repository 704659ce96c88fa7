-- What the code reads of a text from its end is what the definitions read of the text turned round.
use Rattle.std.proofs.Common.{◌≡◌, ℕ, Bool, if◌then◌else◌, ◌||◌, List, [], ◌∷◌, codes as bytes, refl, ap, nat_eq, Some, Option, false, arith}
use Rattle.san.specs.Text.{is_capture_mark, is_equals, is_check_mark, without_first, first_says, read_kind, read_origin}
use Rattle.board.specs.declared.piece.Kind.{Kind}
use Rattle.board.specs.declared.piece.Kind.TheVariants.{Pawn, Knight, Bishop, Rook, Queen, King}
use Rattle.board.specs.Piece.{number}
use Rattle.san.specs.Said.{going}
use Rattle.movetext.specs.Marks.{is_one_of, is_mark}

-- tests that agree leave the same
without_same : (f g : ℕ → Bool) → ((b : ℕ) → f b ≡ g b) → (xs : List ℕ) → without_first f xs ≡ without_first g xs
without_same f g e [] = refl
without_same f g e (x ∷ xs) = ap (λ b. if b then xs else x ∷ xs) (e x)

one_mark : (m b : ℕ) → is_one_of (m ∷ []) b ≡ nat_eq b m
one_mark m b = grind arith

two_marks : (m n b : ℕ) → is_one_of (m ∷ (n ∷ [])) b ≡ (nat_eq b m || nat_eq b n)
two_marks m n b = grind arith

pub without_capture : (xs : List ℕ) → without_first (is_one_of (bytes "x")) xs ≡ without_first is_capture_mark xs
without_capture xs = without_same _ _ (one_mark 120) xs

pub without_equals : (xs : List ℕ) → without_first (is_one_of (bytes "=")) xs ≡ without_first is_equals xs
without_equals xs = without_same _ _ (one_mark 61) xs

pub without_check : (xs : List ℕ) → without_first (is_one_of (bytes "+#")) xs ≡ without_first is_check_mark xs
without_check xs = without_same _ _ (two_marks 43 35) xs

some_kind : (k : Kind) → nat_eq (number k) 0 ≡ false
some_kind Pawn = refl
some_kind Knight = refl
some_kind Bishop = refl
some_kind Rook = refl
some_kind Queen = refl
some_kind King = refl

-- before the target
pub origin_is : (xs a b d : List ℕ) (rank file : Option ℕ) (k : Kind) (t q : ℕ)
    → a ≡ without_first (is_one_of (bytes "x")) xs → rank ≡ first_says (is_mark 49) 49 a → b ≡ without_first (is_mark 49) a
    → file ≡ first_says (is_mark 97) 97 b → d ≡ without_first (is_mark 97) b → number k ≡ read_kind d
    → Some (going (number k) file rank t q) ≡ read_origin q t xs
unfolding read_origin
origin_is xs a b d rank file k t q ea er eb ef ed ek = let w = without_capture xs in let s = some_kind k in grind arith
