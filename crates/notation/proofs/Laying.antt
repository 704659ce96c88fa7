-- What is written of a rank and of the placement, and what is left to write.
use Rattle.std.proofs.Common.{Bool, not, ◌||◌, ◌==◌, if◌then◌else◌, ◌≡◌, ℕ, zero, suc, ◌+◌, ◌*◌, ◌/◌, ◌<◌, ◌≤◌, true, false, cond, List, [], ◌∷◌, ◌++◌, length, get_or, take, drop, sym, refl, ap, ◌∙◌, append_assoc, length-append, arith}
use Rattle.std.proofs.lemmas.List.{nil_from_length, append-nil, drop_more, drop_all, drop-drop, take_at, drop_at}
use Rattle.std.proofs.lemmas.Bool.{eq-eqb, ne_eqb}
use Rattle.std.specs.Simd.{first_chunks}
use Rattle.board.specs.Piece.{letter}
use Rattle.rules.specs.declared.rights.Rights.{Rights}
use Rattle.rules.specs.Parts.{Parts}
use Rattle.notation.specs.Decimal.{digits}
use Rattle.notation.specs.Fen.{fen}
use Rattle.notation.specs.Fields.{gap_text, rank_text, rank_end, rank_codes, ranks_text, side_letter, right_text, rights_text, en_passant_text}

-- a rank is written up to a square, but for the empty squares before it
pub record LaidRank (front squares text : List ℕ) (empty at : ℕ) : Type 0 where
  pub size : length text + empty ≤ length front + at
  pub left : text ++ rank_text empty (drop at squares) ≡ front ++ rank_text 0 squares

pub laid_none : (front squares : List ℕ) → LaidRank front squares front 0 0
laid_none front squares = record { size = omega arith; left = refl }

module _ {front squares text : List ℕ} {empty at : ℕ} (l : LaidRank front squares text empty at) where
  pub laid_empty : at < length squares → get_or squares at 0 ≡ 0 → LaidRank front squares text (empty + 1) (at + 1)
  unfolding rank_text
  laid_empty h e =
      let s = l.size in
      let t = eq-eqb (get_or squares at 0) 0 e in
      record {
        size = omega arith;
        left =
            ap (λ x. text ++ cond x (rank_text (empty + 1) (drop (at + 1) squares)) (gap_text empty ++ (letter (get_or squares at 0) ∷ rank_text 0 (drop (at + 1) squares)))) (sym t)
            ∙ ap (λ x. text ++ rank_text empty x) (sym (drop_more squares at 0 h)) ∙ l.left;
      }

  pub laid_piece : (more : List ℕ) → at < length squares → (get_or squares at 0 ≡ 0 → ⊥) → more ≡ (text ++ gap_text empty) ++ (letter (get_or squares at 0) ∷ []) → length more ≤ length text + empty + 1 →
      LaidRank front squares more 0 (at + 1)
  unfolding rank_text
  laid_piece more h e m w =
      let s = l.size in
      let t = ne_eqb (get_or squares at 0) 0 e in
      record {
        size = omega arith;
        left =
            ap (λ x. x ++ rank_text 0 (drop (at + 1) squares)) m
            ∙ append_assoc (text ++ gap_text empty) (letter (get_or squares at 0) ∷ []) (rank_text 0 (drop (at + 1) squares))
            ∙ append_assoc text (gap_text empty) (letter (get_or squares at 0) ∷ rank_text 0 (drop (at + 1) squares))
            ∙ ap (λ x. text ++ cond x (rank_text (empty + 1) (drop (at + 1) squares)) (gap_text empty ++ (letter (get_or squares at 0) ∷ rank_text 0 (drop (at + 1) squares)))) (sym t)
            ∙ ap (λ x. text ++ rank_text empty x) (sym (drop_more squares at 0 h)) ∙ l.left;
      }

  pub laid_end : length squares ≤ at → text ++ gap_text empty ≡ front ++ rank_text 0 squares
  unfolding rank_text
  laid_end h = ap (λ x. text ++ rank_text empty x) (sym (drop_all at squares h)) ∙ l.left

-- the ranks of a board, the last of them apart
ranks_split : (row : ℕ) (codes : List ℕ) → first_chunks 8 (suc row) codes ≡ first_chunks 8 row codes ++ (rank_codes row codes ∷ [])
ranks_split zero codes = refl
ranks_split (suc row) codes =
    let e : 8 + 8 * row ≡ 8 * suc row = omega arith in
    ap (λ x. take 8 codes ∷ x) (ranks_split row (drop 8 codes)) ∙ ap (λ x. take 8 codes ∷ (first_chunks 8 row (drop 8 codes) ++ (take 8 x ∷ []))) (drop-drop (8 * row) 8 codes ∙ ap (λ n. drop n codes) e)

ranks_count : (row : ℕ) (codes : List ℕ) → length (first_chunks 8 row codes) ≡ row
ranks_count zero codes = refl
ranks_count (suc row) codes = ap suc (ranks_count row (drop 8 codes))

-- the placement is written down to the ranks that are left
pub record LaidRanks (front codes text : List ℕ) (ranks : List (List ℕ)) : Type 0 where
  pub within : length ranks ≤ 8
  pub size : length text + 9 * length ranks ≤ length front + 72
  pub are : ranks ≡ first_chunks 8 (length ranks) codes
  pub left : text ++ ranks_text (length ranks) codes ≡ front ++ ranks_text 8 codes

pub ranks_none : (front codes : List ℕ) (ranks : List (List ℕ)) → length codes ≡ 64 → ranks ≡ first_chunks 8 (length codes / 8) codes → LaidRanks front codes front ranks
ranks_none front codes ranks h e =
    let eight : length codes / 8 ≡ 8 = omega arith in
    let count : length ranks ≡ 8 = ap length e ∙ ranks_count (length codes / 8) codes ∙ eight in
    record {
      within = omega arith;
      size = omega arith;
      are = e ∙ ap (λ n. first_chunks 8 n codes) (eight ∙ sym count);
      left = ap (λ n. front ++ ranks_text n codes) count;
    }

module _ {front codes text : List ℕ} {ranks : List (List ℕ)} (l : LaidRanks front codes text ranks) where
  pub ranks_more : (more : List ℕ) (above : List (List ℕ)) (rank : List ℕ) → ranks ≡ above ++ (rank ∷ []) → more ≡ (text ++ rank_text 0 rank) ++ (rank_end (length above) ∷ []) → length more ≤ length text + 9 → LaidRanks front codes more above
  unfolding ranks_text
  ranks_more more above rank e m w =
      let row = length above in
      let i = l.within in
      let s = l.size in
      let count : length ranks ≡ suc row = ap length e ∙ length-append above (rank ∷ []) ∙ omega arith in
      let same : above ++ (rank ∷ []) ≡ first_chunks 8 row codes ++ (rank_codes row codes ∷ []) = sym e ∙ l.are ∙ ap (λ n. first_chunks 8 n codes) count ∙ ranks_split row codes in
      let upper : above ≡ first_chunks 8 row codes =
      sym (take_at above (rank ∷ []) row refl) ∙ ap (take row) same ∙ take_at (first_chunks 8 row codes) (rank_codes row codes ∷ []) row (ranks_count row codes) in
      let last : rank ∷ [] ≡ rank_codes row codes ∷ [] =
      sym (drop_at above (rank ∷ []) row refl) ∙ ap (drop row) same ∙ drop_at (first_chunks 8 row codes) (rank_codes row codes ∷ []) row (ranks_count row codes) in
      let it : rank ≡ rank_codes row codes = cc in
      record {
        within = omega arith;
        size = omega arith;
        are = upper;
        left =
            ap (λ x. x ++ ranks_text row codes) m
            ∙ append_assoc (text ++ rank_text 0 rank) (rank_end row ∷ []) (ranks_text row codes)
            ∙ append_assoc text (rank_text 0 rank) (rank_end row ∷ ranks_text row codes)
            ∙ ap (λ x. text ++ (rank_text 0 x ++ (rank_end row ∷ ranks_text row codes))) it
            ∙ ap (λ n. text ++ ranks_text n codes) (sym count) ∙ l.left;
      }

  pub ranks_end : length ranks ≡ 0 → text ≡ front ++ ranks_text 8 codes
  unfolding ranks_text
  ranks_end z = sym (append-nil text) ∙ ap (λ n. text ++ ranks_text n codes) (sym z) ∙ l.left

-- the castling rights are written letter by letter, and the hyphen where that was none
abbrev letters : Bool → Bool → Bool → Bool → List ℕ
letters a b c d = right_text 75 a ++ (right_text 81 b ++ (right_text 107 c ++ right_text 113 d))

letters_or_hyphen : (a b c d : Bool) → cond (not (a || b || c || d)) (45 ∷ []) (letters a b c d) ≡ (if length (letters a b c d) == 0 then 45 ∷ [] else letters a b c d)
letters_or_hyphen true b c d = rw (ne_eqb (length (letters true b c d)) 0 (λ e. omega arith))
letters_or_hyphen false true c d = rw (ne_eqb (length (letters false true c d)) 0 (λ e. omega arith))
letters_or_hyphen false false true d = rw (ne_eqb (length (letters false false true d)) 0 (λ e. omega arith))
letters_or_hyphen false false false true = refl
letters_or_hyphen false false false false = refl

module _ (r : Rights) (x₀ x₁ x₂ x₃ x₄ : List ℕ) (a : x₁ ≡ x₀ ++ right_text 75 r.white.kingside) (b : x₂ ≡ x₁ ++ right_text 81 r.white.queenside)
    (c : x₃ ≡ x₂ ++ right_text 107 r.black.kingside) (d : x₄ ≡ x₃ ++ right_text 113 r.black.queenside) where
  abbrev laid : List ℕ
  laid = letters r.white.kingside r.white.queenside r.black.kingside r.black.queenside

  rights_laid : x₄ ≡ x₀ ++ laid
  rights_laid = rw (d, c, b, a) (simp append_assoc)

  rights_are : rights_text r ≡ (if length laid == 0 then 45 ∷ [] else laid)
  unfolding rights_text
  rights_are = letters_or_hyphen r.white.kingside r.white.queenside r.black.kingside r.black.queenside

  pub rights_none : length x₄ ≡ length x₀ → x₄ ++ (45 ∷ []) ≡ x₀ ++ rights_text r
  rights_none e =
      let l = ap length rights_laid ∙ length-append x₀ laid in
      let z : length laid ≡ 0 = omega arith in
      ap (λ x. x ++ (45 ∷ [])) (rights_laid ∙ ap (λ x. x₀ ++ x) (nil_from_length laid z) ∙ append-nil x₀)
      ∙ ap (λ x. x₀ ++ x) (sym (rights_are ∙ ap (λ y. if y then 45 ∷ [] else laid) (eq-eqb (length laid) 0 z)))

  pub rights_some : (length x₄ ≡ length x₀ → ⊥) → x₄ ≡ x₀ ++ rights_text r
  rights_some n =
      let l = ap length rights_laid ∙ length-append x₀ laid in
      let z : length laid ≡ 0 → ⊥ = λ e. n (omega arith) in
      rights_laid ∙ ap (λ x. x₀ ++ x) (sym (rights_are ∙ ap (λ y. if y then 45 ∷ [] else laid) (ne_eqb (length laid) 0 z)))

-- FEN is written field by field
pub fen_laid : (p : Parts) (x₀ x₁ x₂ x₃ x₄ x₅ x₆ x₇ x₈ x₉ x : List ℕ) → x₀ ≡ [] → x₁ ≡ x₀ ++ ranks_text 8 p.codes →
    x₂ ≡ x₁ ++ (side_letter p.side ∷ []) → x₃ ≡ x₂ ++ (32 ∷ []) → x₄ ≡ x₃ ++ rights_text p.rights → x₅ ≡ x₄ ++ (32 ∷ []) →
    x₆ ≡ x₅ ++ en_passant_text p.en_passant → x₇ ≡ x₆ ++ (32 ∷ []) → x₈ ≡ x₇ ++ digits p.clock → x₉ ≡ x₈ ++ (32 ∷ []) →
    x ≡ x₉ ++ digits p.number → x ≡ fen p
unfolding fen
fen_laid p x₀ x₁ x₂ x₃ x₄ x₅ x₆ x₇ x₈ x₉ x a b c d e f g h i j k = rw (k, j, i, h, g, f, e, d, c, b, a) (simp append_assoc)
