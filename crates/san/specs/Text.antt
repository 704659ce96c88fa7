-- A move text read. It is read from its end, where each byte tells by itself which part it belongs to.
use Rattle.std.specs.Prelude.{◌≡◌, ℕ, ◌+◌, ◌-◌, ◌*◌, ◌<◌, ◌≤◌, Bool, true, false, cond, ◌&&◌, ◌||◌, ◌⊎◌, List, [], ◌∷◌, ◌++◌, reverse, IfSome, Some, None, Err, codes as bytes, Option, Result, ◌==◌, nat_le}
use Rattle.std.specs.Option.{option_or}
use Rattle.faults.specs.declared.LawsFault.{LawsFault}
use Rattle.faults.specs.declared.LawsFault.TheVariants.{InNotation}
use Rattle.faults.specs.declared.NotationFault.TheVariants.{NotMoveText}
use Rattle.rules.specs.Parts.{Parts}
use Rattle.rules.specs.Move.{Move}
use Rattle.san.specs.Said.{Said, castling, going, matching, only}
use Rattle.san.specs.Written.{kind_text, file_text, rank_text, capture_text, square_text}

abbrev pub is_file : ℕ → Bool
is_file b = nat_le 97 b && nat_le b 104

abbrev pub is_rank : ℕ → Bool
is_rank b = nat_le 49 b && nat_le b 56

abbrev pub is_capture_mark : ℕ → Bool
is_capture_mark b = b == 120

abbrev pub is_equals : ℕ → Bool
is_equals b = b == 61

-- + or #
abbrev pub is_check_mark : ℕ → Bool
is_check_mark b = b == 43 || b == 35

-- the number of the kind that a letter stands for, 0 for none
abbrev pub letter_kind : ℕ → ℕ
letter_kind b = cond (b == 78) 2 (cond (b == 66) 3 (cond (b == 82) 4 (cond (b == 81) 5 (cond (b == 75) 6 0))))

-- a list without a first byte that passes; what that byte says
abbrev pub without_first : (ℕ → Bool) → List ℕ → List ℕ
without_first f [] = []
without_first f (x ∷ xs) = cond (f x) xs (x ∷ xs)

abbrev pub first_says : (ℕ → Bool) → ℕ → List ℕ → Option ℕ
first_says f base [] = None
first_says f base (x ∷ xs) = cond (f x) (Some (x - base)) None

-- what is left is nothing for a pawn, else a piece's letter
abbrev pub read_kind : List ℕ → ℕ
read_kind [] = 1
read_kind (x ∷ []) = letter_kind x
read_kind (x ∷ (y ∷ r)) = 0

-- before the target, backwards: x, rank, file, letter
unfoldable pub read_origin : ℕ → ℕ → List ℕ → Option Said
read_origin q t xs =
    let a = without_first is_capture_mark xs in
    let b = without_first is_rank a in
    let k = read_kind (without_first is_file b) in
    cond (k == 0) None (Some (going k (first_says is_file 97 b) (first_says is_rank 49 a) t q))

unfoldable pub read_target : ℕ → List ℕ → Option Said
read_target q [] = None
read_target q (r ∷ []) = None
read_target q (r ∷ (f ∷ xs)) = cond (is_rank r && is_file f) (read_origin q (8 * (r - 49) + (f - 97)) xs) None

-- a promotion is a letter from N to Q behind the target, with = before it or not
abbrev pub is_promotion : ℕ → Bool
is_promotion b = nat_le 2 (letter_kind b) && nat_le (letter_kind b) 5

unfoldable pub read_promotion : List ℕ → Option Said
read_promotion [] = None
read_promotion (x ∷ xs) = cond (is_promotion x) (read_target (letter_kind x) (without_first is_equals xs)) (read_target 0 (x ∷ xs))

abbrev pub same_bytes : List ℕ → List ℕ → Bool
same_bytes [] [] = true
same_bytes [] (y ∷ ys) = false
same_bytes (x ∷ xs) [] = false
same_bytes (x ∷ xs) (y ∷ ys) = x == y && same_bytes xs ys

-- castling is spelled with the letter O or the digit 0, alike from both ends
unfoldable pub read_castling : List ℕ → Option Said
read_castling xs =
    let short = same_bytes xs (bytes "O-O") || same_bytes xs (bytes "0-0") in
    let long = same_bytes xs (bytes "O-O-O") || same_bytes xs (bytes "0-0-0") in
    cond short (Some (castling false)) (cond long (Some (castling true)) None)

-- what a text says, if it is a move text
unfoldable pub read_text : List ℕ → Option Said
read_text t = let xs = without_first is_check_mark (reverse t) in option_or (read_promotion xs) (read_castling xs)

-- the move that a text matches at a position
abbrev pub matched : Parts → Option Said → Result Move LawsFault
matched p None = Err (InNotation NotMoveText)
matched p (Some s) = only (matching p s)

unfoldable pub move_answer : Parts → List ℕ → Result Move LawsFault
move_answer p t = matched p (read_text t)

-- ---- the same in the order in which a text is written

-- + or # at the end, or nothing
abbrev pub CheckMark : List ℕ → Type 0
CheckMark c = (c ≡ []) ⊎ ((c ≡ bytes "+") ⊎ (c ≡ bytes "#"))

-- nothing for no promotion, else a letter from N to Q with = before it or not
abbrev pub PromotionText : ℕ → List ℕ → Type 0
PromotionText q c = ((q ≡ 0) × (c ≡ [])) ⊎ ((2 ≤ q) × (q ≤ 5) × ((c ≡ kind_text q) ⊎ (c ≡ 61 ∷ kind_text q)))

-- a text spells what is said: letter, file, rank, x, target, promotion and + or #, where only the target must stand; or castling
pub data Spells : List ℕ → Said → Type 0 where
  piece : (k : ℕ) (f r : Option ℕ) (x : Bool) (t q : ℕ) (p c : List ℕ) → 1 ≤ k → k ≤ 6 → IfSome f (λ n. n < 8) → IfSome r (λ n. n < 8) → t < 64
      → PromotionText q p → CheckMark c
      → Spells (kind_text k ++ (file_text f ++ (rank_text r ++ (capture_text x ++ (square_text t ++ (p ++ c)))))) (going k f r t q)
  kingside : (o c : List ℕ) → (o ≡ bytes "O-O") ⊎ (o ≡ bytes "0-0") → CheckMark c → Spells (o ++ c) (castling false)
  queenside : (o c : List ℕ) → (o ≡ bytes "O-O-O") ⊎ (o ≡ bytes "0-0-0") → CheckMark c → Spells (o ++ c) (castling true)
