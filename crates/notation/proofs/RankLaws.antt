-- The laws of piece placement: what is written reads back, and what is read was written so.
use Rattle.std.proofs.Common.{◌≡◌, ℕ, zero, suc, ◌+◌, ◌-◌, ◌*◌, ◌<◌, ◌≤◌, Bool, true, false, cond, not, ◌&&◌, ◌||◌, eqb, ltb, leb, List, [], ◌∷◌, ◌++◌, length, get_or, take, drop, replicate, Some, None, Option, unwrap_or, sym, refl, ap, ◌∙◌, subst, ⊎_elim, append_assoc, arith, length-append, take-add}
use Rattle.std.specs.Option.{option_or}
use Rattle.std.proofs.lemmas.List.{append-nil, replicate_more, length-replicate, length-drop, length-take-le, get_or-drop, get_or-take, get_or_past, drop_at, take_at}
use Rattle.std.proofs.lemmas.Bool.{cases_eq, cases_lt, cases_Bool, and_parts, and_from, and_right, or_parts, eq-eqb, ne_eqb, eqb-true, leb-true, le-leb, ltb-false, not-true, false≢true}
use Rattle.board.specs.Below.{least_below, all_below}
use Rattle.board.specs.Piece.{letter, code_of_letter}
use Rattle.board.proofs.BelowLaws.{all_at}
use Rattle.notation.specs.Reader.{then, with, past, behind}
use Rattle.notation.specs.Fields.{gap_text, rank_text, rank_end, rank_codes, ranks_text, is_gap, squares, read_rank, read_ranks}
use Rattle.notation.proofs.RankSteps.{rank_full, rank_short, rank_none, rank_refused, rank_more, gap_squares, piece_squares, no_squares}

-- letters and codes
abbrev letter_test : ℕ → Bool
letter_test c = cond (leb 1 c) (eqb (unwrap_or (code_of_letter (letter c)) 0) c && not (is_gap (letter c))) true

letters_tested : all_below 13 letter_test ≡ true
unfolding all_below code_of_letter least_below
letters_tested = refl

some_value : (o : Option ℕ) (c : ℕ) → 1 ≤ c → unwrap_or o 0 ≡ c → o ≡ Some c
some_value None c h e = absurd (omega arith)
some_value (Some x) c h e = ap Some e

piece_letter : (c : ℕ) → 1 ≤ c → c ≤ 12 → (code_of_letter (letter c) ≡ Some c) × (is_gap (letter c) ≡ false)
piece_letter c h l =
    let t = all_at 13 letter_test letters_tested c (omega arith) in
    let t' : (eqb (unwrap_or (code_of_letter (letter c)) 0) c && not (is_gap (letter c))) ≡ true = rw (le-leb 1 c h) at t in
    let p = and_parts _ _ t' in
    (some_value (code_of_letter (letter c)) c h (eqb-true _ _ p.0), not-true _ p.1)

least_passes : (n m : ℕ) (p : ℕ → Bool) → least_below n p ≡ Some m → p m ≡ true
unfolding least_below
least_passes zero m p e = cc
least_passes (suc n) m p e = go (least_passes n m p) (least_below n p) (p n) refl refl e
  where
    go : (least_below n p ≡ Some m → p m ≡ true) → (o : Option ℕ) (b : Bool) → least_below n p ≡ o → p n ≡ b → option_or o (cond b (Some n) None) ≡ Some m → p m ≡ true
    go ih None true q r f = let k : n ≡ m = cc in rw (← k) r
    go ih None false q r f = cc
    go ih (Some x) b q r f = ih (q ∙ f)

letter_piece : (b c : ℕ) → code_of_letter b ≡ Some c → (1 ≤ c) × (letter c ≡ b)
unfolding code_of_letter
letter_piece b c e =
    let p = and_parts _ _ (least_passes 13 c (λ c. leb 1 c && eqb (letter c) b) e) in
    (leb-true 1 c p.0, eqb-true (letter c) b p.1)

-- one byte of a rank
gap_byte : (g : ℕ) → g < 8 → is_gap (48 + suc g) ≡ true
gap_byte g h = and_from _ _ (le-leb 49 (48 + suc g) (omega arith)) (le-leb (48 + suc g) 56 (omega arith))

gap_value : (g : ℕ) → 48 + suc g - 48 ≡ suc g
gap_value g = omega arith

reads_gap : (g : ℕ) (so_far t : List ℕ) → length so_far + suc g ≤ 8 → read_rank false so_far ((48 + suc g) ∷ t) ≡ read_rank true (so_far ++ replicate (suc g) 0) t
reads_gap g so_far t h =
    let b = gap_byte g (omega arith) in
    let v = gap_value g in
    let s : squares (48 + suc g) ≡ Some (replicate (suc g) 0) = gap_squares (48 + suc g) b ∙ ap (λ n. Some (replicate n 0)) v in
    let l : length (so_far ++ replicate (suc g) 0) ≤ 8 = rw (length-append, length-replicate) (omega arith) in
    rank_more false so_far (48 + suc g) t (replicate (suc g) 0) (omega arith) s refl l ∙ ap (λ x. read_rank x (so_far ++ replicate (suc g) 0) t) b

reads_piece : (d : Bool) (c : ℕ) (so_far t : List ℕ) → 1 ≤ c → c ≤ 12 → length so_far < 8 → read_rank d so_far (letter c ∷ t) ≡ read_rank false (so_far ++ (c ∷ [])) t
reads_piece d c so_far t h l s =
    let p = piece_letter c h l in
    let few : length (so_far ++ (c ∷ [])) ≤ 8 = rw length-append (omega arith) in
    let off : (d && is_gap (letter c)) ≡ false = and_right d (is_gap (letter c)) p.1 in
    rank_more d so_far (letter c) t (c ∷ []) s (piece_squares (letter c) c p.1 p.0) off few ∙ ap (λ x. read_rank x (so_far ++ (c ∷ [])) t) p.1

-- a rank reads back
rank_back_in : (cs : List ℕ) (gap : ℕ) (so_far rest : List ℕ) → ((k : ℕ) → get_or cs k 0 ≤ 12) → length so_far + gap + length cs ≡ 8 →
    read_rank false so_far (rank_text gap cs ++ rest) ≡ Some ((so_far ++ replicate gap 0) ++ cs, rest)
unfolding rank_text
rank_back_in [] zero so_far rest small e =
    rank_full false so_far rest (omega arith) ∙ ap (λ x. Some (x, rest)) (sym (append-nil (so_far ++ []) ∙ append-nil so_far))
rank_back_in [] (suc g) so_far rest small e =
    reads_gap g so_far rest (omega arith)
    ∙ rank_full true (so_far ++ replicate (suc g) 0) rest (rw (length-append, length-replicate) (omega arith))
    ∙ ap (λ x. Some (x, rest)) (sym (append-nil (so_far ++ replicate (suc g) 0)))
rank_back_in (c ∷ cs) gap so_far rest small e =
    ⊎_elim (λ (z : c ≡ 0).
    let t = eq-eqb c 0 z in
    ap (λ x. read_rank false so_far (cond x (rank_text (gap + 1) cs) (gap_text gap ++ (letter c ∷ rank_text 0 cs)) ++ rest)) t
    ∙ rank_back_in cs (gap + 1) so_far rest (λ k. small (suc k)) (omega arith)
    ∙ ap (λ x. Some (x, rest))
    (ap (λ x. (so_far ++ x) ++ cs) (sym (replicate_more gap 0)) ∙ ap (λ x. x ++ cs) (sym (append_assoc so_far (replicate gap 0) (0 ∷ []))) ∙ append_assoc (so_far ++ replicate gap 0) (0 ∷ []) cs ∙ ap (λ x. (so_far ++ replicate gap 0) ++ (x ∷ cs)) (sym z)))
    (λ (n : c ≡ 0 → ⊥).
    let t = ne_eqb c 0 n in
    let lo : 1 ≤ c = omega arith in
    ap (λ x. read_rank false so_far (cond x (rank_text (gap + 1) cs) (gap_text gap ++ (letter c ∷ rank_text 0 cs)) ++ rest)) t
    ∙ piece (λ front f. rank_back_in cs 0 front rest (λ k. small (suc k)) f) gap lo e)
    (cases_eq c 0)
  where
    after : ((front : List ℕ) → length front + 0 + length cs ≡ 8 → read_rank false front (rank_text 0 cs ++ rest) ≡ Some ((front ++ []) ++ cs, rest)) → (d : Bool) (front : List ℕ) → 1 ≤ c → length front + suc (length cs) ≡ 8 → read_rank d front (letter c ∷ (rank_text 0 cs ++ rest)) ≡ Some (front ++ (c ∷ cs), rest)
    after ih d front lo f =
        reads_piece d c front (rank_text 0 cs ++ rest) lo (small 0) (omega arith)
        ∙ ih (front ++ (c ∷ [])) (rw length-append (omega arith))
        ∙ ap (λ x. Some (x, rest)) (ap (λ x. x ++ cs) (append-nil (front ++ (c ∷ []))) ∙ append_assoc front (c ∷ []) cs)

    piece : ((front : List ℕ) → length front + 0 + length cs ≡ 8 → read_rank false front (rank_text 0 cs ++ rest) ≡ Some ((front ++ []) ++ cs, rest)) → (g : ℕ) → 1 ≤ c → length so_far + g + length (c ∷ cs) ≡ 8 → read_rank false so_far ((gap_text g ++ (letter c ∷ rank_text 0 cs)) ++ rest) ≡ Some ((so_far ++ replicate g 0) ++ (c ∷ cs), rest)
    piece ih zero lo f = after ih false so_far lo (omega arith) ∙ ap (λ x. Some (x ++ (c ∷ cs), rest)) (sym (append-nil so_far))
    piece ih (suc g) lo f =
        reads_gap g so_far _ (omega arith) ∙ after ih true (so_far ++ replicate (suc g) 0) lo (rw (length-append, length-replicate) (omega arith))

pub rank_back : (cs rest : List ℕ) → ((k : ℕ) → get_or cs k 0 ≤ 12) → length cs ≡ 8 → read_rank false [] (rank_text 0 cs ++ rest) ≡ Some (cs, rest)
rank_back cs rest small e = rank_back_in cs 0 [] rest small (omega arith)

-- a rank that does not begin with an empty square
abbrev Begins : List ℕ → Type 0
Begins [] = Unit {0}
Begins (c ∷ cs) = c ≡ 0 → ⊥

gap_first : (k : ℕ) (cs : List ℕ) → Begins cs → rank_text k cs ≡ gap_text k ++ rank_text 0 cs
unfolding rank_text
gap_first k [] h = sym (append-nil (gap_text k))
gap_first k (c ∷ cs) h = let t = ne_eqb c 0 h in rw t

gaps_join : (k g : ℕ) (cs : List ℕ) → rank_text g (replicate k 0 ++ cs) ≡ rank_text (g + k) cs
unfolding rank_text
gaps_join zero g cs = ap (λ n. rank_text n cs) (omega arith)
gaps_join (suc k) g cs = gaps_join k (g + 1) cs ∙ ap (λ n. rank_text n cs) (omega arith)

-- what was read of a rank behind the codes so far
record ReadRank (d : Bool) (so_far t all rest : List ℕ) : Type 0 where
  more : List ℕ
  whole : all ≡ so_far ++ more
  text : t ≡ rank_text 0 more ++ rest
  size : length all ≡ 8
  begins : d ≡ true → Begins more

-- the parts of a pair in a Some
pub some_parts : {X : Type 0} (a b : X) (r s : List ℕ) → ◌≡◌ {A = Option (X × List ℕ)} (Some (a, r)) (Some (b, s)) → (a ≡ b) × (r ≡ s)
some_parts {X} a b r s e = let f : ◌≡◌ {A = X × List ℕ} (a, r) (b, s) = cc in (ap (λ (x : X × List ℕ). x.0) f, ap (λ (x : X × List ℕ). x.1) f)

pub none_some : {V : Type 0} (x : V) → None ≡ Some x → ⊥
none_some x e = cc

read_full : (d : Bool) (so_far t all rest : List ℕ) → length so_far ≡ 8 → read_rank d so_far t ≡ Some (all, rest) → ReadRank d so_far t all rest
unfolding rank_text
read_full d so_far t all rest l e =
    let p = some_parts so_far all t rest (sym (rank_full d so_far t (omega arith)) ∙ e) in
    record { more = []; whole = sym p.0 ∙ sym (append-nil so_far); text = p.1; size = ap length (sym p.0) ∙ l; begins = λ _. tt }

rank_only_in : (t : List ℕ) (d : Bool) (so_far all rest : List ℕ) → length so_far ≤ 8 → read_rank d so_far t ≡ Some (all, rest) → ReadRank d so_far t all rest
unfolding rank_text
rank_only_in [] d so_far all rest l e =
    ⊎_elim (λ (f : length so_far < 8). absurd (none_some (all, rest) (sym (rank_short d so_far f) ∙ e)))
    (λ (f : 8 ≤ length so_far). read_full d so_far [] all rest (omega arith) e) (cases_lt (length so_far) 8)
rank_only_in (b ∷ t) d so_far all rest l e =
    ⊎_elim (λ (f : length so_far < 8). step (λ g x h q. rank_only_in t g x all rest h q) f (squares b) refl)
    (λ (f : 8 ≤ length so_far). read_full d so_far (b ∷ t) all rest (omega arith) e) (cases_lt (length so_far) 8)
  where
    behind_gap : (ih : ReadRank true (so_far ++ replicate (b - 48) 0) t all rest) → d ≡ false → is_gap b ≡ true → ReadRank d so_far (b ∷ t) all rest
    behind_gap ih off g =
        let p = and_parts _ _ g in
        let lo = leb-true 49 b p.0 in
        let k : b - 48 ≡ suc (b - 49) = omega arith in
        let v : 48 + suc (b - 49) ≡ b = omega arith in
        record {
          more = replicate (b - 48) 0 ++ ih.more;
          whole = ih.whole ∙ append_assoc so_far (replicate (b - 48) 0) ih.more;
          text =
              ap (λ x. b ∷ x) ih.text
              ∙ ap (λ x. x ∷ (rank_text 0 ih.more ++ rest)) (sym v)
              ∙ ap (λ n. (gap_text n ++ rank_text 0 ih.more) ++ rest) (sym k)
              ∙ ap (λ x. x ++ rest) (sym (gap_first (b - 48) ih.more (ih.begins refl)) ∙ ap (λ n. rank_text n ih.more) (omega arith) ∙ sym (gaps_join (b - 48) 0 ih.more));
          size = ih.size;
          begins = λ y. absurd (false≢true (sym off ∙ y));
        }

    behind_piece : (c : ℕ) → code_of_letter b ≡ Some c → (ih : ReadRank false (so_far ++ (c ∷ [])) t all rest) → ReadRank d so_far (b ∷ t) all rest
    behind_piece c q ih =
        let p = letter_piece b c q in
        let lo = p.0 in
        let n : eqb c 0 ≡ false = ne_eqb c 0 (λ z. omega arith) in
        record {
          more = c ∷ ih.more;
          whole = ih.whole ∙ append_assoc so_far (c ∷ []) ih.more;
          text = ap (λ x. b ∷ x) ih.text ∙ ap (λ x. x ∷ (rank_text 0 ih.more ++ rest)) (sym p.1) ∙ ap (λ x. cond x (rank_text (0 + 1) ih.more) (gap_text 0 ++ (letter c ∷ rank_text 0 ih.more)) ++ rest) (sym n);
          size = ih.size;
          begins = λ y z. omega arith;
        }

    step : ((g : Bool) (x : List ℕ) → length x ≤ 8 → read_rank g x t ≡ Some (all, rest) → ReadRank g x t all rest) → length so_far < 8 → (o : Option (List ℕ)) → squares b ≡ o → ReadRank d so_far (b ∷ t) all rest
    step ih f None q = absurd (none_some (all, rest) (sym (rank_none d so_far b t f q) ∙ e))
    step ih f (Some more) q =
        ⊎_elim (λ (r : ((d && is_gap b) || ltb 8 (length (so_far ++ more))) ≡ true). absurd (none_some (all, rest) (sym (rank_refused d so_far b t more f q r) ∙ e)))
        (λ (r : ((d && is_gap b) || ltb 8 (length (so_far ++ more))) ≡ false).
        let p = or_parts _ _ r in
        let m = ltb-false 8 (length (so_far ++ more)) p.1 in
        let next = ih (is_gap b) (so_far ++ more) m (sym (rank_more d so_far b t more f q p.0 m) ∙ e) in
        ⊎_elim (λ (g : is_gap b ≡ true).
        let y : replicate (b - 48) 0 ≡ more = let z = sym (gap_squares b g) ∙ q in cc in
        let off : d ≡ false = and_true_false d (is_gap b) g p.0 in
        behind_gap (subst (λ w. ReadRank true (so_far ++ w) t all rest) (sym y) (subst (λ w. ReadRank w (so_far ++ more) t all rest) g next)) off g)
        (λ (g : is_gap b ≡ false).
        piece next g (code_of_letter b) refl) (cases_Bool (is_gap b)))
        (cases_Bool ((d && is_gap b) || ltb 8 (length (so_far ++ more))))
      where
        and_true_false : (x y : Bool) → y ≡ true → (x && y) ≡ false → x ≡ false
        and_true_false true y a z = sym a ∙ z
        and_true_false false y a z = refl

        piece : ReadRank (is_gap b) (so_far ++ more) t all rest → is_gap b ≡ false → (o : Option ℕ) → code_of_letter b ≡ o → ReadRank d so_far (b ∷ t) all rest
        piece next g None z = absurd (none_some more (sym (no_squares b g z) ∙ q))
        piece next g (Some c) z =
            let y : (c ∷ []) ≡ more = let w = sym (piece_squares b c g z) ∙ q in cc in
            behind_piece c z (subst (λ w. ReadRank false (so_far ++ w) t all rest) (sym y) (subst (λ w. ReadRank w (so_far ++ more) t all rest) g next))

pub rank_only : (t codes rest : List ℕ) → read_rank false [] t ≡ Some (codes, rest) → (length codes ≡ 8) × (t ≡ rank_text 0 codes ++ rest)
rank_only t codes rest e =
    let r = rank_only_in t false [] codes rest (omega arith) e in
    (r.size, r.text ∙ ap (λ x. rank_text 0 x ++ rest) (sym r.whole))

-- the placement reads back
pub ranks_back : (n : ℕ) (above codes rest : List ℕ) → ((k : ℕ) → get_or codes k 0 ≤ 12) → 8 * n ≤ length codes →
    read_ranks n above (ranks_text n codes ++ rest) ≡ Some (take (8 * n) codes ++ above, rest)
unfolding read_ranks ranks_text
ranks_back zero above codes rest small h = refl
ranks_back (suc n) above codes rest small h =
    let l : length (rank_codes n codes) ≡ 8 = length-take-le 8 (drop (8 * n) codes) (rw length-drop (omega arith)) in
    let few : (k : ℕ) → get_or (rank_codes n codes) k 0 ≤ 12 =
    λ k. ⊎_elim (λ (i : k < 8). rw (get_or-take 8 (drop (8 * n) codes) k 0 i, get_or-drop) (small (8 * n + k)))
    (λ (i : 8 ≤ k). let z = get_or_past (rank_codes n codes) k 0 (omega arith) in omega arith) (cases_lt k 8) in
    let m : 8 * n + 8 ≡ 8 * suc n = omega arith in
    let whole : take (8 * suc n) codes ≡ take (8 * n) codes ++ rank_codes n codes = ap (λ k. take k codes) (sym m) ∙ take-add (8 * n) 8 codes in
    let e : eqb (rank_end n) (rank_end n) ≡ true = eq-eqb _ _ refl in
    ap (λ x. then (behind (rank_end n) (read_rank false [] x)) (λ r t. read_ranks n (r ++ above) t)) (append_assoc (rank_text 0 (rank_codes n codes)) (rank_end n ∷ ranks_text n codes) rest)
    ∙ ap (λ x. then (behind (rank_end n) x) (λ r t. read_ranks n (r ++ above) t)) (rank_back (rank_codes n codes) (rank_end n ∷ (ranks_text n codes ++ rest)) few l)
    ∙ ap (λ x. then (with (rank_codes n codes) (cond x (Some (ranks_text n codes ++ rest)) None)) (λ r t. read_ranks n (r ++ above) t)) e
    ∙ ranks_back n (rank_codes n codes ++ above) codes rest small (omega arith)
    ∙ ap (λ x. Some (x, rest)) (sym (append_assoc (take (8 * n) codes) (rank_codes n codes) above) ∙ ap (λ x. x ++ above) (sym whole))

-- what was read of the ranks below others
pub record ReadRanks (n : ℕ) (above t codes rest : List ℕ) : Type 0 where
  pub lower : List ℕ
  pub whole : codes ≡ lower ++ above
  pub size : length lower ≡ 8 * n
  pub text : (x : List ℕ) → t ≡ ranks_text n (lower ++ x) ++ rest

pub past_only : (byte : ℕ) (t rest : List ℕ) → past byte t ≡ Some rest → t ≡ byte ∷ rest
past_only byte [] rest e = absurd (none_some rest e)
past_only byte (b ∷ t) rest e =
    ⊎_elim (λ (z : eqb b byte ≡ true). let e' = rw z at e in let y = eqb-true b byte z in cc)
    (λ (z : eqb b byte ≡ false). let e' = rw z at e in absurd (none_some rest e')) (cases_Bool (eqb b byte))

-- a value that follows from what was read
pub record Then {V W : Type 0} (r : Option (V × List ℕ)) (k : V → List ℕ → Option W) (w : W) : Type 0 where
  pub value : V
  pub rest : List ℕ
  pub read : r ≡ Some (value, rest)
  pub next : k value rest ≡ Some w

pub then_parts : {V W : Type 0} (r : Option (V × List ℕ)) (k : V → List ℕ → Option W) (w : W) → then r k ≡ Some w → Then r k w
then_parts None k w e = absurd (none_some w e)
then_parts (Some x) k w e = record { value = x.0; rest = x.1; read = refl; next = e }

pub behind_only : {X : Type 0} (byte : ℕ) (r : Option (X × List ℕ)) (v : X) (rest : List ℕ) → behind byte r ≡ Some (v, rest) → r ≡ Some (v, byte ∷ rest)
behind_only {X} byte r v rest e =
    let p = then_parts r (λ v t. with v (past byte t)) (v, rest) e in
    p.read ∙ go p.value (past byte p.rest) refl p.next
  where
    go : (u : X) {t : List ℕ} (o : Option (List ℕ)) → past byte t ≡ o → with u o ≡ Some (v, rest) → ◌≡◌ {A = Option (X × List ℕ)} (Some (u, t)) (Some (v, byte ∷ rest))
    go u None q f = absurd (none_some (v, rest) f)
    go u {t} (Some s) q f =
        let a : ◌≡◌ {A = X × List ℕ} (u, s) (v, rest) = cc in
        let b : u ≡ v = ap (λ (x : X × List ℕ). x.0) a in
        let c : s ≡ rest = ap (λ (x : X × List ℕ). x.1) a in
        let d = past_only byte t s q in
        cc

pub ranks_only : (n : ℕ) (above t codes rest : List ℕ) → read_ranks n above t ≡ Some (codes, rest) → ReadRanks n above t codes rest
unfolding read_ranks ranks_text
ranks_only zero above t codes rest e =
    let p = some_parts above codes t rest e in
    record { lower = []; whole = sym p.0; size = refl; text = λ x. p.1 }
ranks_only (suc n) above t codes rest e =
    let p = then_parts (behind (rank_end n) (read_rank false [] t)) (λ r t. read_ranks n (r ++ above) t) (codes, rest) e in
    let row = rank_only t p.value (rank_end n ∷ p.rest) (behind_only (rank_end n) (read_rank false [] t) p.value p.rest p.read) in
    let ih = ranks_only n (p.value ++ above) p.rest codes rest p.next in
    let sz = row.0 in
    let sl = ih.size in
    record {
      lower = ih.lower ++ p.value;
      whole = ih.whole ∙ sym (append_assoc ih.lower p.value above);
      size = length-append ih.lower p.value ∙ omega arith;
      text = λ x.
          let d : drop (8 * n) (ih.lower ++ (p.value ++ x)) ≡ p.value ++ x = drop_at ih.lower (p.value ++ x) (8 * n) ih.size in
          let k : take 8 (p.value ++ x) ≡ p.value = take_at p.value x 8 row.0 in
          row.1
          ∙ ap (λ y. rank_text 0 p.value ++ (rank_end n ∷ y)) (ih.text (p.value ++ x))
          ∙ ap (λ y. rank_text 0 y ++ (rank_end n ∷ (ranks_text n (ih.lower ++ (p.value ++ x)) ++ rest))) (sym k ∙ ap (take 8) (sym d))
          ∙ sym (append_assoc (rank_text 0 (take 8 (drop (8 * n) (ih.lower ++ (p.value ++ x))))) (rank_end n ∷ ranks_text n (ih.lower ++ (p.value ++ x))) rest)
          ∙ ap (λ y. (rank_text 0 (take 8 (drop (8 * n) y)) ++ (rank_end n ∷ ranks_text n y)) ++ rest) (sym (append_assoc ih.lower p.value x));
    }
