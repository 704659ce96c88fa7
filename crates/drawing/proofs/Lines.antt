-- One line more of an input, and its end.
use Rattle.std.proofs.Common.{◌≡◌, ℕ, suc, ◌+◌, ◌-◌, ◌<◌, ◌≤◌, Bool, true, false, List, [], ◌∷◌, ◌++◌, length, take, drop, Some, None, position, sym, refl, ap, ◌∙◌, append_assoc, ◌==◌, one-add, arith}
use Rattle.std.specs.List.{before_first, after_first, position_or_len}
use Rattle.std.proofs.lemmas.List.{append-nil, length_push, length-take, length-drop, take_all, drop_all}
use Rattle.drawing.specs.Drawing.{rest_drawn, line_drawn, line_feed, input_drawn}

abbrev pub ends_line : ℕ → Bool
ends_line b = b == line_feed

before_line : List ℕ → List ℕ
before_line xs = before_first ends_line xs

after_line : List ℕ → List ℕ
after_line xs = after_first ends_line xs

-- the first byte ends the line
module _ (b : ℕ) (xs : List ℕ) (e : ends_line b ≡ true) where
  before_end : before_line (b ∷ xs) ≡ []
  unfolding before_line
  before_end = rw e refl

  after_end : after_line (b ∷ xs) ≡ xs
  unfolding after_line
  after_end = rw e refl

  rest_end : (read : List ℕ) (byte line : ℕ) → rest_drawn read byte line (b ∷ xs) ≡ line_drawn read byte line ++ rest_drawn [] (byte + length read + 1) (line + 1) xs
  unfolding rest_drawn
  rest_end read byte line = rw (e, rest_drawn) refl

-- the first byte is one of the line
module _ (b : ℕ) (xs : List ℕ) (e : ends_line b ≡ false) where
  before_byte : before_line (b ∷ xs) ≡ b ∷ before_line xs
  unfolding before_line
  before_byte = rw (e, one-add) refl

  after_byte : after_line (b ∷ xs) ≡ after_line xs
  unfolding after_line
  after_byte = let n = position_or_len ends_line xs in let z : 1 + n + 1 ≡ suc (n + 1) = omega arith in rw (e, z) refl

  rest_byte : (read : List ℕ) (byte line : ℕ) → rest_drawn read byte line (b ∷ xs) ≡ rest_drawn (read ++ (b ∷ [])) byte line xs
  unfolding rest_drawn
  rest_byte read byte line = rw (e, rest_drawn) refl

-- what is drawn behind what has been read of a line: the line, and what stands behind it
abbrev Cut : List ℕ → List ℕ → ℕ → ℕ → Type 0
Cut read xs byte line = rest_drawn read byte line xs
    ≡ line_drawn (read ++ before_line xs) byte line ++ rest_drawn [] (byte + length read + length (before_line xs) + 1) (line + 1) (after_line xs)

cut_end : (read xs : List ℕ) (b byte line : ℕ) → ends_line b ≡ true → Cut read (b ∷ xs) byte line
cut_end read xs b byte line e =
    let drawn = rest_end b xs e read byte line in
    let text : read ++ before_line (b ∷ xs) ≡ read = ap (λ t. read ++ t) (before_end b xs e) ∙ append-nil read in
    let behind = after_end b xs e in
    let next : byte + length read + length (before_line (b ∷ xs)) + 1 ≡ byte + length read + 1 = omega (arith, ap length (before_end b xs e)) in
    cc

cut_byte : (read xs : List ℕ) (b byte line : ℕ) → ends_line b ≡ false → Cut (read ++ (b ∷ [])) xs byte line → Cut read (b ∷ xs) byte line
cut_byte read xs b byte line e more =
    let drawn = rest_byte b xs e read byte line in
    let text : read ++ before_line (b ∷ xs) ≡ (read ++ (b ∷ [])) ++ before_line xs = ap (λ t. read ++ t) (before_byte b xs e) ∙ sym (append_assoc read (b ∷ []) (before_line xs)) in
    let behind = after_byte b xs e in
    let next : byte + length read + length (before_line (b ∷ xs)) + 1 ≡ byte + length (read ++ (b ∷ [])) + length (before_line xs) + 1 = omega (arith, ap length (before_byte b xs e), length_push read b) in
    cc

cut_last : (b : ℕ) (read : List ℕ) (byte line : ℕ) → Cut (b ∷ read) [] byte line
unfolding rest_drawn before_line after_line
cut_last b read byte line = rw (append-nil (b ∷ read)) (sym (append-nil (line_drawn (b ∷ read) byte line)))

cut : (read xs : List ℕ) (byte line : ℕ) → 0 < length read + length xs → Cut read xs byte line
cut [] [] byte line h = absurd (omega arith)
cut (b ∷ read) [] byte line h = cut_last b read byte line
cut read (b ∷ xs) byte line h = by (ends_line b) refl (cut (read ++ (b ∷ [])) xs byte line (omega (arith, length_push read b)))
  where
    by : (t : Bool) → ends_line b ≡ t → Cut (read ++ (b ∷ [])) xs byte line → Cut read (b ∷ xs) byte line
    by true e more = cut_end read xs b byte line e
    by false e more = cut_byte read xs b byte line e more

-- nothing is drawn of an end, wherever it is
same_rest : (ys : List ℕ) (byte next line : ℕ) → (0 < length ys → byte ≡ next) → rest_drawn [] byte line ys ≡ rest_drawn [] next line ys
unfolding rest_drawn
same_rest [] byte next line e = refl
same_rest (y ∷ ys) byte next line e = ap (λ n. rest_drawn [] n line (y ∷ ys)) (e (omega arith))

-- the first line of an input that is not empty, and what stands behind it, which begins at the next byte
pub line_cut : (xs : List ℕ) (byte end line : ℕ) → 0 < length xs → byte + length xs ≡ end
    → rest_drawn [] byte line xs
    ≡ line_drawn (before_first ends_line xs) byte line ++ rest_drawn [] (end - length (after_first ends_line xs)) (line + 1) (after_first ends_line xs)
unfolding before_line after_line
line_cut xs byte end line h e =
    let n = position_or_len ends_line xs in
    let before = length-take n xs in
    let after = length-drop (n + 1) xs in
    cut [] xs byte line (omega arith)
    ∙ ap (λ r. line_drawn (before_first ends_line xs) byte line ++ r) (same_rest (after_first ends_line xs) _ _ (line + 1) (λ l. omega arith))

-- what is drawn so far, and the rest, is all
pub record GoesOn (input out rest : List ℕ) (line : ℕ) : Type 0 where
  pub within : length rest ≤ length input
  pub few : line + length rest ≤ length input + 1
  pub all : out ++ rest_drawn [] (length input - length rest) line rest ≡ input_drawn input

pub goes_on : (input out next rest text behind : List ℕ) (line : ℕ) → GoesOn input out rest line → 0 < length rest
    → text ≡ before_first ends_line rest → behind ≡ after_first ends_line rest
    → next ≡ out ++ line_drawn text (length input - length rest) line → GoesOn input next behind (line + 1)
goes_on input out next rest text behind line g h is_text is_behind e =
    let byte = length input - length rest in
    let after = length-drop (position_or_len ends_line rest + 1) rest in
    let shorter : length behind < length rest = omega (arith, ap length is_behind) in
    let rest_cut : rest_drawn [] byte line rest ≡ line_drawn text byte line ++ rest_drawn [] (length input - length behind) (line + 1) behind =
    rw (is_text, is_behind) (line_cut rest byte (length input) line h (omega arith)) in
    record {
      within = omega arith;
      few = omega arith;
      all = rw e (append_assoc out _ _ ∙ ap (λ t. out ++ t) (sym rest_cut) ∙ g.all);
    }

pub all_drawn : (input out rest : List ℕ) (line : ℕ) → GoesOn input out rest line → length rest ≡ 0 → out ≡ input_drawn input
unfolding rest_drawn
all_drawn input out [] line g h = sym (append-nil out) ∙ g.all
all_drawn input out (b ∷ rest) line g h = absurd (omega arith)

-- the first line and what is behind it, by what `position` found
pub line_found : (xs : List ℕ) (i : ℕ) → Some i ≡ position ends_line xs
    → (take i xs ≡ before_first ends_line xs) × (take (length xs - (i + 1)) (drop (i + 1) xs) ≡ after_first ends_line xs)
line_found xs i e =
    let at : i ≡ position_or_len ends_line xs = grind arith in
    let all = take_all (length xs - (i + 1)) (drop (i + 1) xs) (omega (arith, length-drop (i + 1) xs)) in
    (ap (λ n. take n xs) at, all ∙ ap (λ n. drop (n + 1) xs) at)

pub line_not_found : (xs : List ℕ) → None ≡ position ends_line xs → (xs ≡ before_first ends_line xs) × ([] ≡ after_first ends_line xs)
line_not_found xs e =
    let end : length xs ≤ position_or_len ends_line xs = grind arith in
    (sym (take_all (position_or_len ends_line xs) xs end), sym (drop_all (position_or_len ends_line xs + 1) xs (omega arith)))
