-- What the calls of a board answer and leave, from its list of 64 codes.
use Rattle.std.specs.Prelude.{◌≡◌, ℕ, zero, suc, ◌≤◌, Bool, cond, ◌&&◌, List, length, replicate, Option, ◌==◌, nat_le, nat_lt, slice_index, slice_set}
use Rattle.board.specs.Below.{least_below}

-- the list after a clear
unfoldable pub empty_board : List ℕ
empty_board = replicate 64 0

-- the answer of a look
abbrev pub looked : List ℕ → ℕ → ℕ
looked codes s = cond (nat_lt s 64) (slice_index codes s) 255

-- whether a put is done; its answer; the list after it
unfoldable pub can_put : ℕ → ℕ → Bool
can_put s c = nat_lt s 64 && nat_le c 12

unfoldable pub put_answer : List ℕ → ℕ → ℕ → ℕ
put_answer codes s c = cond (can_put s c) (slice_index codes s) 255

unfoldable pub put_list : List ℕ → ℕ → ℕ → List ℕ
put_list codes s c = cond (can_put s c) (slice_set codes s c) codes

-- the lowest square, from a given one up, that holds a code
unfoldable pub next_holding : List ℕ → ℕ → ℕ → Option ℕ
next_holding codes from c = least_below 64 (λ s. nat_le from s && slice_index codes s == c)

-- 64 codes, none above 12: what a board can show
abbrev pub Shown : List ℕ → Type 0
Shown codes = (length codes ≡ 64) × ((s : ℕ) → slice_index codes s ≤ 12)

-- the list after the first n squares of a picture have been put
unfoldable pub put_below : ℕ → List ℕ → List ℕ → List ℕ
put_below zero codes picture = codes
put_below (suc n) codes picture = put_list (put_below n codes picture) n (slice_index picture n)
