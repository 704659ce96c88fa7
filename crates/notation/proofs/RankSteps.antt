-- One byte more of a rank.
use Rattle.std.proofs.Common.{◌≡◌, ℕ, suc, ◌+◌, ◌-◌, ◌*◌, ◌<◌, ◌≤◌, Bool, true, false, ◌&&◌, ◌||◌, ltb, List, [], ◌∷◌, ◌++◌, length, take, drop, set, replicate, Some, None, sym, refl, ap, ◌∙◌, arith, length-append, take-add}
use Rattle.std.proofs.lemmas.List.{drop-drop, drop-replicate, take-replicate, take_more_set, drop-set-lt, length-take-le, length-replicate, length-set, length-drop, take_all, drop_at, nil_from_length}
use Rattle.std.proofs.lemmas.Bool.{or_right, and_right, le-leb, lt-leb, lt-ltb, le-ltb}
use Rattle.board.specs.Piece.{code_of_letter}
use borrow.Rule.Slice.PartMut.{put_mid, post_of, Post-is}
use Rattle.notation.specs.Reader.{then, with, past, behind}
use Rattle.notation.specs.Fields.{is_gap, squares, read_rank, rank_end, read_ranks}

pub rank_full : (digit : Bool) (codes t : List ℕ) → 8 ≤ length codes → read_rank digit codes t ≡ Some (codes, t)
unfolding read_rank
rank_full digit codes [] h = rw (le-leb 8 (length codes) h)
rank_full digit codes (b ∷ t) h = rw (le-leb 8 (length codes) h)

pub rank_short : (digit : Bool) (codes : List ℕ) → length codes < 8 → read_rank digit codes [] ≡ None
unfolding read_rank
rank_short digit codes h = rw (lt-leb 8 (length codes) h)

pub rank_none : (digit : Bool) (codes : List ℕ) (b : ℕ) (t : List ℕ) → length codes < 8 → squares b ≡ None → read_rank digit codes (b ∷ t) ≡ None
unfolding read_rank
rank_none digit codes b t h e = rw (lt-leb 8 (length codes) h, e)

pub rank_refused : (digit : Bool) (codes : List ℕ) (b : ℕ) (t more : List ℕ) → length codes < 8 → squares b ≡ Some more →
    ((digit && is_gap b) || ltb 8 (length (codes ++ more))) ≡ true → read_rank digit codes (b ∷ t) ≡ None
unfolding read_rank
rank_refused digit codes b t more h e r = rw (lt-leb 8 (length codes) h, e, r)

pub rank_more : (digit : Bool) (codes : List ℕ) (b : ℕ) (t more : List ℕ) → length codes < 8 → squares b ≡ Some more →
    (digit && is_gap b) ≡ false → length (codes ++ more) ≤ 8 → read_rank digit codes (b ∷ t) ≡ read_rank (is_gap b) (codes ++ more) t
unfolding read_rank
rank_more digit codes b t more h e d l = rw (lt-leb 8 (length codes) h, e, d, le-ltb 8 (length (codes ++ more)) l)

pub gap_squares : (b : ℕ) → is_gap b ≡ true → squares b ≡ Some (replicate (b - 48) 0)
gap_squares b e = rw e

pub piece_squares : (b c : ℕ) → is_gap b ≡ false → code_of_letter b ≡ Some c → squares b ≡ Some (c ∷ [])
piece_squares b c e f = rw (e, f)

pub no_squares : (b : ℕ) → is_gap b ≡ false → code_of_letter b ≡ None → squares b ≡ None
no_squares b e f = rw (e, f)

-- a rank that is filled up to a file, with the other squares empty, and what is left of its text; past the last file it is refused
pub record Filled (t codes : List ℕ) (file : ℕ) (after : Bool) (rest : List ℕ) : Type 0 where
  pub size : length codes ≡ 8
  pub empty : drop file codes ≡ replicate (8 - file) 0
  pub left : file ≤ 8 → read_rank after (take file codes) rest ≡ read_rank false [] t
  pub wide : 8 < file → None ≡ read_rank false [] t

pub filled_none : (t : List ℕ) → Filled t (replicate 8 0) 0 false t
filled_none t = record { size = refl; empty = refl; left = λ _. refl; wide = λ h. absurd (omega arith) }

pub filled_all : {t codes : List ℕ} {file : ℕ} {after : Bool} {rest : List ℕ} → Filled t codes file after rest → file ≡ 8 → Some (codes, rest) ≡ read_rank false [] t
filled_all {t} {codes} {file} {after} {rest} f h =
    let s = f.size in
    let e : take file codes ≡ codes = take_all file codes (omega arith) in
    sym (rank_full after codes rest (omega arith)) ∙ ap (λ x. read_rank after x rest) (sym e) ∙ f.left (omega arith)

module _ {t codes : List ℕ} {file : ℕ} {after : Bool} {rest : List ℕ} (f : Filled t codes file after rest) (h : file < 8) where
  short : length (take file codes) < 8
  short = let s = f.size in let e = length-take-le file codes (omega arith) in omega arith

  here : (b : ℕ) (behind : List ℕ) → rest ≡ b ∷ behind → read_rank after (take file codes) (b ∷ behind) ≡ read_rank false [] t
  here b behind e = ap (read_rank after (take file codes)) (sym e) ∙ f.left (omega arith)

  pub filled_end : length rest ≡ 0 → None ≡ read_rank false [] t
  filled_end e = sym (ap (read_rank after (take file codes)) (nil_from_length rest e) ∙ rank_short after (take file codes) short) ∙ f.left (omega arith)

  module _ (b : ℕ) (behind : List ℕ) (e : rest ≡ b ∷ behind) where
    pub filled_other : is_gap b ≡ false → code_of_letter b ≡ None → None ≡ read_rank false [] t
    filled_other g n = sym (rank_none after (take file codes) b behind short (no_squares b g n)) ∙ here b behind e

    pub filled_twice : is_gap b ≡ true → after ≡ true → None ≡ read_rank false [] t
    filled_twice g a = sym (rank_refused after (take file codes) b behind _ short (gap_squares b g) (rw (a, g))) ∙ here b behind e

    pub filled_gap : is_gap b ≡ true → after ≡ false → Filled t codes (file + (b - 48)) true behind
    filled_gap g a =
        let n = b - 48 in
        let s = f.size in
        let m = length-take-le file codes (omega arith) in
        let k : (8 - file) - n ≡ 8 - (file + n) = omega arith in
        let ga : (after && is_gap b) ≡ false = rw a in
        record {
          size = s;
          empty = sym (drop-drop n file codes) ∙ ap (drop n) f.empty ∙ drop-replicate n (8 - file) 0 ∙ ap (λ x. replicate x 0) k;
          left = λ l.
              let sum : take (file + n) codes ≡ take file codes ++ replicate n 0 = take-add file n codes ∙ ap (λ x. take file codes ++ x) (ap (take n) f.empty ∙ take-replicate n (8 - file) 0 (omega arith)) in
              let few : length (take file codes ++ replicate n 0) ≤ 8 = rw (length-append, length-replicate) (omega arith) in
              ap (λ x. read_rank true x behind) sum ∙ ap (λ x. read_rank x (take file codes ++ replicate n 0) behind) (sym g)
              ∙ sym (rank_more after (take file codes) b behind _ short (gap_squares b g) ga few) ∙ here b behind e;
          wide = λ w.
              sym (rank_refused after (take file codes) b behind _ short (gap_squares b g)
              (or_right (after && is_gap b) _ (lt-ltb 8 (length (take file codes ++ replicate n 0)) (rw (length-append, length-replicate) (omega arith))))) ∙ here b behind e;
        }

    pub filled_piece : (c : ℕ) → is_gap b ≡ false → code_of_letter b ≡ Some c → Filled t (set codes file c) (file + 1) false behind
    filled_piece c g n =
        let s = f.size in
        let m = length-take-le file codes (omega arith) in
        let sum : take (file + 1) (set codes file c) ≡ take file codes ++ (c ∷ []) = take_more_set codes file c (omega arith) in
        let few : length (take file codes ++ (c ∷ [])) ≤ 8 = rw length-append (omega arith) in
        let k : (8 - file) - 1 ≡ 8 - (file + 1) = omega arith in
        let ga : (after && is_gap b) ≡ false = rw g (and_right after false refl) in
        record {
          size = length-set codes file c ∙ s;
          empty = drop-set-lt (file + 1) codes file c (omega arith) ∙ sym (drop-drop 1 file codes) ∙ ap (drop 1) f.empty ∙ drop-replicate 1 (8 - file) 0 ∙ ap (λ x. replicate x 0) k;
          left = λ _. ap (λ x. read_rank false x behind) sum ∙ ap (λ x. read_rank x (take file codes ++ (c ∷ [])) behind) (sym g)
              ∙ sym (rank_more after (take file codes) b behind _ short (piece_squares b c g n) ga few) ∙ here b behind e;
          wide = λ w. absurd (omega arith);
        }

-- a board that is filled down to a rank, and what is left of its text
pub record Ranked (t codes : List ℕ) (row : ℕ) (rest : List ℕ) : Type 0 where
  pub within : row ≤ 8
  pub size : length codes ≡ 64
  pub left : read_ranks row (drop (8 * row) codes) rest ≡ read_ranks 8 [] t

pub ranked_none : (t : List ℕ) → Ranked t (replicate 64 0) 8 t
ranked_none t = record { within = omega arith; size = refl; left = refl }

pub ranked_all : {t codes : List ℕ} {row : ℕ} {rest : List ℕ} → Ranked t codes row rest → row ≤ 0 → Some (codes, rest) ≡ read_ranks 8 [] t
unfolding read_ranks
ranked_all {t} {codes} {row} {rest} f h = let z : row ≡ 0 = omega arith in ap (λ n. read_ranks n (drop (8 * n) codes) rest) (sym z) ∙ f.left

module _ {t codes : List ℕ} {row : ℕ} {rest : List ℕ} (f : Ranked t codes row rest) (h : 0 < row) where
  next : read_ranks (suc (row - 1)) (drop (8 * row) codes) rest ≡ read_ranks 8 [] t
  next = let e : suc (row - 1) ≡ row = omega arith in ap (λ n. read_ranks n (drop (8 * row) codes) rest) e ∙ f.left

  pub ranked_broken : None ≡ read_rank false [] rest → None ≡ read_ranks 8 [] t
  unfolding read_ranks
  ranked_broken e = ap (λ r. then (behind (rank_end (row - 1)) r) (λ squares rest. read_ranks (row - 1) (squares ++ drop (8 * row) codes) rest)) e ∙ next

  module _ {squares : List ℕ} {behind-it : List ℕ} (e : Some (squares, behind-it) ≡ read_rank false [] rest) where
    ended : then (with squares (past (rank_end (row - 1)) (behind-it))) (λ squares rest. read_ranks (row - 1) (squares ++ drop (8 * row) codes) rest) ≡ read_ranks 8 [] t
    unfolding read_ranks
    ended = ap (λ r. then (behind (rank_end (row - 1)) r) (λ squares rest. read_ranks (row - 1) (squares ++ drop (8 * row) codes) rest)) e ∙ next

    pub ranked_unended : None ≡ past (rank_end (row - 1)) (behind-it) → None ≡ read_ranks 8 [] t
    ranked_unended g = ap (λ r. then (with squares r) (λ squares rest. read_ranks (row - 1) (squares ++ drop (8 * row) codes) rest)) g ∙ ended

    pub ranked_more : (part last : List ℕ) → part ≡ squares → length part ≡ 8 → Some last ≡ past (rank_end (row - 1)) (behind-it) →
        Ranked t (put_mid (8 * (row - 1)) (8 * (row - 1) + 8 - 8 * (row - 1)) codes part) (row - 1) last
    ranked_more part last p l g =
        let s = f.size in
        let w = f.within in
        let a = 8 * (row - 1) in
        let k : length (take a codes) ≡ a = length-take-le a codes (omega arith) in
        let post : post_of a (a + 8 - a) codes ≡ drop (8 * row) codes = Post-is a (a + 8) codes (omega arith) ∙ ap (λ n. drop n codes) (omega arith) in
        let d : drop a (put_mid a (a + 8 - a) codes part) ≡ squares ++ drop (8 * row) codes =
        drop_at (take a codes) (part ++ post_of a (a + 8 - a) codes) a k ∙ ap (λ x. part ++ x) post ∙ ap (λ x. x ++ drop (8 * row) codes) p in
        record {
          within = omega arith;
          size = length-append (take a codes) (part ++ post_of a (a + 8 - a) codes) ∙ ap (λ n. length (take a codes) + n) (length-append part (post_of a (a + 8 - a) codes) ∙ ap (λ x. length part + length x) post ∙ ap (λ n. length part + n) (length-drop (8 * row) codes)) ∙ omega arith;
          left = ap (λ x. read_ranks (row - 1) x last) d
              ∙ ap (λ r. then (with squares r) (λ squares rest. read_ranks (row - 1) (squares ++ drop (8 * row) codes) rest)) g ∙ ended;
        }
