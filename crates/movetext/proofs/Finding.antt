-- The moves that a piece's text matches, found square by square.
use Rattle.std.proofs.Common.{◌≡◌, ℕ, zero, suc, append_assoc, ◌+◌, ◌-◌, ◌<◌, ◌≤◌, Bool, true, false, cond, not, ◌&&◌, eqb, List, [], ◌∷◌, ◌++◌, map, get_or, Some, None, Ok, Err, Option, Result, sym, refl, ap, ◌∙◌, ⊎_elim, arith}
use Rattle.std.proofs.lemmas.Bool.{cases_Bool, eq-eqb, and_left, and_right, and_from, both_ways}
use Rattle.std.proofs.lemmas.Bool.Decides.{nat_tests}
use Rattle.std.proofs.lemmas.List.{append-nil}
use Rattle.std.proofs.lemmas.List.FromFn.{map-range_with_len_more, get_or-map-range_with_len}
use Rattle.std.specs.List.{range_with_len}
use Rattle.std.specs.Option.{option_map, option_to_list, is_some, ok_or}
use Rattle.board.specs.declared.side.Side.{Side}
use Rattle.board.specs.declared.side.Side.TheVariants.{White, Black}
use Rattle.board.specs.Below.{◌and_then◌}
use Rattle.board.specs.Geometry.{file, rank}
use Rattle.faults.specs.declared.LawsFault.{LawsFault}
use Rattle.faults.specs.declared.LawsFault.TheVariants.{NoMatch, SeveralMatch, InNotation}
use Rattle.faults.specs.declared.NotationFault.{NotationFault}
use Rattle.faults.specs.declared.NotationFault.TheVariants.{NotMoveText}
use Rattle.rules.specs.Parts.{Parts}
use Rattle.rules.specs.Move.{Move, is_castling}
use Rattle.rules.specs.After.{coloured}
use Rattle.rules.specs.Lawful.{lawful}
use Rattle.rules.specs.Legal.{legal, keep, going_from, source, of_side}
use Rattle.rules.proofs.LegalLaws.{legal_parts}
use Rattle.moves.proofs.TrialLaws.{keep_append, keep_one, keep_none}
use Rattle.san.specs.Said.{Said, castling, going, matches, matching, kind_of, agrees, file_agrees, same, is_queenside, only}
use Rattle.san.specs.Sources.{castling_move}
use Rattle.san.specs.Text.{matched}
use Rattle.san.proofs.SourceLaws.{by_castling}

-- the kind of an own piece, by its code
kinds : (side : Side) (c k : ℕ) → of_side side c ≡ true → 1 ≤ k → k ≤ 6 → eqb k (kind_of c) ≡ eqb c (coloured side k)
kinds White c k o a b = grind (arith, nat_tests)
kinds Black c k o a b = grind (arith, nat_tests)

in_order : (castling kind marks rest : Bool)
    → (not castling && kind && true && true && marks && rest) ≡ (((kind && not castling) and_then true) && (marks && rest))
in_order true true m r = refl
in_order true false m r = refl
in_order false true m r = refl
in_order false false m r = refl

no_more : (g : Move → Bool) → keep g [] ≡ []
unfolding keep
no_more g = refl

module _ (p : Parts) (k : ℕ) (f r : Option ℕ) (t q : ℕ) where
  -- the matches that come from the first n squares
  abbrev pub both : ℕ → List Move
  both n = keep (matches p (going k f r t q)) (keep (legal p) (map (going_from t q) (range_with_len 0 n)))

  -- a match comes from a square
  abbrev pub fits : ℕ → Bool
  fits n = source p k t q n && (file_agrees k f (file n) t && agrees r (rank n))

  -- one square more
  both_more : (n : ℕ) → both (n + 1) ≡ both n ++ keep (matches p (going k f r t q)) (keep (legal p) (going_from t q n ∷ []))
  both_more n =
      let ms = map (going_from t q) (range_with_len 0 n) in
      ap (λ l. keep (matches p (going k f r t q)) (keep (legal p) l)) (map-range_with_len_more (going_from t q) 0 n n (omega arith))
      ∙ ap (keep (matches p (going k f r t q))) (keep_append (legal p) ms (going_from t q n ∷ []))
      ∙ keep_append (matches p (going k f r t q)) (keep (legal p) ms) (keep (legal p) (going_from t q n ∷ []))

  module _ (low : 1 ≤ k) (high : k ≤ 6) where
    judged : (n : ℕ) → legal p (going_from t q n) ≡ true → matches p (going k f r t q) (going_from t q n) ≡ fits n
    unfolding matches source
    judged n l =
        let c = get_or p.codes n 0 in
        let e = kinds p.side c k (legal_parts p (going_from t q n) l).own low high in
        rw (e, eq-eqb t t refl, eq-eqb q q refl, l)
        (in_order (is_castling p (going_from t q n)) (eqb c (coloured p.side k)) (file_agrees k f (file n) t) (agrees r (rank n)))

    unfit : (n : ℕ) → legal p (going_from t q n) ≡ false → fits n ≡ false
    unfolding source
    unfit n l = rw l (and_left _ _ (off (eqb (get_or p.codes n 0) (coloured p.side k) && not (is_castling p (going_from t q n)))))
      where
        off : (b : Bool) → (b and_then false) ≡ false
        off true = refl
        off false = refl

    last_kept : (n : ℕ) → keep (matches p (going k f r t q)) (keep (legal p) (going_from t q n ∷ [])) ≡ cond (fits n) (going_from t q n ∷ []) []
    last_kept n = ⊎_elim
        (λ (l : legal p (going_from t q n) ≡ true).
        let j = judged n l in
        let one = keep_one (legal p) (going_from t q n) l in
        rw one (⊎_elim
        (λ (y : fits n ≡ true). rw y (keep_one (matches p (going k f r t q)) (going_from t q n) (j ∙ y)))
        (λ (o : fits n ≡ false). rw o (keep_none (matches p (going k f r t q)) (going_from t q n) (j ∙ o)))
        (cases_Bool (fits n))))
        (λ (l : legal p (going_from t q n) ≡ false).
        let none = keep_none (legal p) (going_from t q n) l in
        rw (none, unfit n l) (no_more (matches p (going k f r t q))))
        (cases_Bool (legal p (going_from t q n)))

    pub both_found : (n : ℕ) → fits n ≡ true → both (n + 1) ≡ both n ++ (going_from t q n ∷ [])
    both_found n e = both_more n ∙ ap (λ l. both n ++ l) (last_kept n ∙ ap (λ b. cond b (going_from t q n ∷ []) []) e)

    pub both_passed : (n : ℕ) → fits n ≡ false → both (n + 1) ≡ both n
    both_passed n e = both_more n ∙ ap (λ l. both n ++ l) (last_kept n ∙ ap (λ b. cond b (going_from t q n ∷ []) []) e) ∙ append-nil (both n)

    -- what the code knows of a square
    module _ (goes : List Bool) (n : ℕ) (eg : goes ≡ map (source p k t q) (range_with_len 0 64)) (h : n < 64) where
      goes_at : get_or goes n false ≡ source p k t q n
      goes_at = ap (λ l. get_or l n false) eg ∙ get_or-map-range_with_len (source p k t q) 0 64 n n false h (omega arith)

      pub fits_there : (b : Bool) → get_or goes n false ≡ true → b ≡ (file_agrees k f (file n) t && agrees r (rank n)) → b ≡ true → fits n ≡ true
      fits_there b g e y = and_from _ _ (sym goes_at ∙ g) (sym e ∙ y)

      pub goes_not : get_or goes n false ≡ false → fits n ≡ false
      goes_not g = and_left _ _ (sym goes_at ∙ g)

    pub agrees_not : (n : ℕ) (b : Bool) → b ≡ (file_agrees k f (file n) t && agrees r (rank n)) → b ≡ false → fits n ≡ false
    agrees_not n b e o = and_right (source p k t q n) _ (sym e ∙ o)

    -- the first match, a second one, and the end
    module _ {X : Type 0} (plain : X → Move) where
      pub turn_found : (o : Option X) (x : X) (n : ℕ) → option_to_list (option_map plain o) ≡ both n → is_some o ≡ false → plain x ≡ going_from t q n → fits n ≡ true
          → option_to_list (option_map plain (Some x)) ≡ both (n + 1)
      turn_found None x n e i ex y = ap (λ m. m ∷ []) ex ∙ ap (λ l. l ++ (going_from t q n ∷ [])) e ∙ sym (both_found n y)
      turn_found (Some z) x n e i ex y = absurd (both_ways true i refl)

      more : (n j : ℕ) → (ms : List Move) × (both (n + j) ≡ both n ++ ms)
      more n zero = let e : n + 0 ≡ n = omega arith in ([], ap both e ∙ sym (append-nil (both n)))
      more n (suc j) =
          let was = more n j in
          let last = keep (matches p (going k f r t q)) (keep (legal p) (going_from t q (n + j) ∷ [])) in
          let e : n + suc j ≡ n + j + 1 = omega arith in
          (was.0 ++ last, ap both e ∙ both_more (n + j) ∙ ap (λ l. l ++ last) was.1 ∙ append_assoc (both n) was.0 last)

      pub second : (o : Option X) (n : ℕ) → option_to_list (option_map plain o) ≡ both n → is_some o ≡ true → fits n ≡ true → n < 64
          → ◌≡◌ {A = Result Move LawsFault} (Err SeveralMatch) (only (both 64))
      second None n e i y h = absurd (both_ways true (sym i) refl)
      second (Some x) n e i y h =
          let rest = more (n + 1) (64 - (n + 1)) in
          let whole : 64 ≡ n + 1 + (64 - (n + 1)) = omega arith in
          let all : both 64 ≡ (plain x ∷ (going_from t q n ∷ [])) ++ rest.0 =
          ap both whole ∙ rest.1 ∙ ap (λ l. l ++ rest.0) (both_found n y ∙ ap (λ l. l ++ (going_from t q n ∷ [])) (sym e)) in
          sym (ap only all)

      pub ended : (o : Option X) (r : Result X LawsFault) (seen : Result X LawsFault → Result Move LawsFault)
          → ((x : X) → seen (Ok x) ≡ Ok (plain x)) → ((a : LawsFault) → seen (Err a) ≡ Err a)
          → option_to_list (option_map plain o) ≡ both 64 → r ≡ ok_or o NoMatch → seen r ≡ only (both 64)
      ended None r seen ok err e v = ap seen v ∙ err NoMatch ∙ ap only e
      ended (Some x) r seen ok err e v = ap seen v ∙ ok x ∙ ap only e

-- castling
turns : (side : Side) (queenside : Bool) → same queenside (is_queenside (castling_move side queenside)) ≡ true
turns White true = refl
turns White false = refl
turns Black true = refl
turns Black false = refl

module _ (p : Parts) (queenside : Bool) (law : lawful p ≡ true) where
  abbrev m : Move
  m = castling_move p.side queenside

  pub castles : (n : Move) → n ≡ m → legal p n ≡ true → is_castling p n ≡ true → ◌≡◌ {A = Result Move LawsFault} (Ok n) (only (matching p (castling queenside)))
  unfolding matches
  castles n e l k =
      let l' = rw e at l in
      let k' = rw e at k in
      let fits = and_from _ (same queenside (is_queenside m)) k' (turns p.side queenside) in
      ap Ok e ∙ sym (ap only (by_castling p queenside law ∙ ap (keep (matches p (castling queenside))) (keep_one (legal p) m l') ∙ keep_one (matches p (castling queenside)) m fits))

  pub no_castling : (n : Move) → n ≡ m → (legal p n ≡ true → is_castling p n ≡ true → ⊥) → ◌≡◌ {A = Result Move LawsFault} (Err NoMatch) (only (matching p (castling queenside)))
  unfolding matches
  no_castling n e none = sym (ap only (by_castling p queenside law ∙ ⊎_elim
      (λ (l : legal p m ≡ true).
      let o : is_castling p m ≡ false = ⊎_elim
      (λ (k : is_castling p m ≡ true). absurd (none (rw e l) (rw e k)))
      (λ (k : is_castling p m ≡ false). k)
      (cases_Bool (is_castling p m)) in
      ap (keep (matches p (castling queenside))) (keep_one (legal p) m l) ∙ keep_none (matches p (castling queenside)) m (and_left _ _ o))
      (λ (l : legal p m ≡ false). ap (keep (matches p (castling queenside))) (keep_none (legal p) m l) ∙ no_more (matches p (castling queenside)))
      (cases_Bool (legal p m))))

-- what a text says, and then the move that it matches
pub answered : (p : Parts) (o : Option Said) (s : Said) → ◌≡◌ {A = Result Said NotationFault} (Ok s) (ok_or o NotMoveText) → only (matching p s) ≡ matched p o
answered p None s e = let z : ◌≡◌ {A = ℕ} 0 1 = cc in absurd (omega arith)
answered p (Some x) s e = let q : s ≡ x = cc in ap (λ y. only (matching p y)) q

pub unanswered : (p : Parts) (o : Option Said) (f : NotationFault) → ◌≡◌ {A = Result Said NotationFault} (Err f) (ok_or o NotMoveText)
    → ◌≡◌ {A = Result Move LawsFault} (Err (InNotation f)) (matched p o)
unanswered p None f e = let q : f ≡ NotMoveText = cc in ap (λ x. Err (InNotation x)) q
unanswered p (Some x) f e = let z : ◌≡◌ {A = ℕ} 0 1 = cc in absurd (omega arith)
