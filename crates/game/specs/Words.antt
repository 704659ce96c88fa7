-- The words of a remark.
use Rattle.std.specs.Prelude.{ℕ, Bool, true, false, cond, not, ◌&&◌, ◌||◌, List, [], ◌∷◌, ◌++◌, length, Ok, Err, Result, ◌==◌, nat_le, nat_lt}
use Rattle.std.specs.List.{list_any}
use Rattle.faults.specs.declared.NotationFault.{NotationFault}
use Rattle.faults.specs.declared.NotationFault.TheVariants.{BadRemark, NoWord}

-- space, tab, carriage return or line feed
abbrev pub is_blank : ℕ → Bool
is_blank b = b == 32 || b == 9 || b == 13 || b == 10

-- 33 to 126 without }, or from 128 on
abbrev pub is_word_byte : ℕ → Bool
is_word_byte b = (nat_le 33 b && nat_le b 126 && not (b == 125)) || nat_le 128 b

-- the words of a text, behind what has been read of a word: runs of bytes that are not blanks
abbrev pub word_end : List ℕ → List (List ℕ) → List (List ℕ)
word_end [] ws = ws
word_end (b ∷ w) ws = (b ∷ w) ∷ ws

abbrev pub words_behind : List ℕ → List ℕ → List (List ℕ)
words_behind w [] = word_end w []
words_behind w (b ∷ t) = elim (is_blank b) [ true ↦ word_end w (words_behind [] t) | false ↦ words_behind (w ++ (b ∷ [])) t ]

unfoldable pub words : List ℕ → List (List ℕ)
words t = words_behind [] t

-- a byte that is neither blank nor a word's
abbrev pub is_bad_byte : ℕ → Bool
is_bad_byte b = not (is_blank b) && not (is_word_byte b)

abbrev pub most_word : ℕ
most_word = 77

abbrev pub is_long : List ℕ → Bool
is_long w = nat_lt most_word (length w)

-- a byte that may not stand in a remark, or a word over 77 bytes
unfoldable pub is_bad_remark : List ℕ → Bool
is_bad_remark t = list_any is_bad_byte t || list_any is_long (words t)

abbrev pub no_words : List (List ℕ) → Bool
no_words [] = true
no_words (w ∷ ws) = false

-- words with a space before each; with one between
abbrev pub spaced : List (List ℕ) → List ℕ
spaced [] = []
spaced (w ∷ ws) = 32 ∷ (w ++ spaced ws)

abbrev pub joined : List (List ℕ) → List ℕ
joined [] = []
joined (w ∷ ws) = w ++ spaced ws

-- what is kept of a remark
unfoldable pub kept : List ℕ → List ℕ
kept t = joined (words t)

-- how many bytes of a remark are kept, or what is wrong with it
unfoldable pub remark_answer : List ℕ → Result ℕ NotationFault
remark_answer t = cond (is_bad_remark t) (Err BadRemark) (cond (no_words (words t)) (Err NoWord) (Ok (length (kept t))))
