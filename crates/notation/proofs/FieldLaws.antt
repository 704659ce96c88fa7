-- The laws of the other fields: what is written reads back, and what is read was written so.
use Rattle.std.proofs.Common.{◌≡◌, ℕ, ◌+◌, ◌-◌, ◌*◌, ◌/◌, ◌%◌, ◌<◌, Bool, true, false, ◌&&◌, eqb, ltb, leb, List, [], ◌∷◌, ◌++◌, IfSome, Some, None, Option, unwrap_or, sym, refl, ap, ◌∙◌, ⊎_elim, append_assoc, arith}
use Rattle.std.specs.Option.{option_or}
use Rattle.std.proofs.lemmas.Bool.{cases_Bool, and_parts, and_from, eq-eqb, ne_eqb, leb-true, ltb-true, le-leb, lt-ltb, true≢false}
use Rattle.board.specs.declared.side.Side.{Side}
use Rattle.board.specs.declared.side.Side.TheVariants.{White, Black}
use Rattle.rules.specs.declared.rights.Rights.{Rights}
use Rattle.notation.specs.Reader.{then, with, past, behind}
use Rattle.notation.specs.Fields.{side_letter, read_side, right_text, no_right, rights_text, read_right, read_castling, read_rights, en_passant_text, read_eighth, read_square, read_en_passant}
use Rattle.notation.proofs.RankLaws.{none_some, some_parts, past_only, then_parts}

-- the parts of a value and the rest
pub pair_parts : {X : Type 0} (a b : X) (r s : List ℕ) → ◌≡◌ {A = X × List ℕ} (a, r) (b, s) → (a ≡ b) × (r ≡ s)
pair_parts {X} a b r s f = (ap (λ (x : X × List ℕ). x.0) f, ap (λ (x : X × List ℕ). x.1) f)

pub past_back : (byte : ℕ) (t : List ℕ) → past byte (byte ∷ t) ≡ Some t
past_back byte t = let e : eqb byte byte ≡ true = eq-eqb byte byte refl in rw e

pub behind_back : {X : Type 0} (byte : ℕ) (r : Option (X × List ℕ)) (v : X) (t : List ℕ) → r ≡ Some (v, byte ∷ t) → behind byte r ≡ Some (v, t)
behind_back byte r v t e = ap (behind byte) e ∙ ap (with v) (past_back byte t)

-- the side to move
pub side_back : (s : Side) (t : List ℕ) → read_side (side_letter s ∷ t) ≡ Some (s, t)
side_back White t = refl
side_back Black t = refl

pub side_only : (t : List ℕ) (s : Side) (rest : List ℕ) → read_side t ≡ Some (s, rest) → t ≡ side_letter s ∷ rest
side_only t s rest e = go (past 119 t) (past 98 t) refl refl e
  where
    go : (p q : Option (List ℕ)) → past 119 t ≡ p → past 98 t ≡ q → option_or (with White p) (with Black q) ≡ Some (s, rest) → t ≡ side_letter s ∷ rest
    go None None f g h = absurd (none_some (s, rest) h)
    go None (Some r) f g h = let x = some_parts Black s r rest h in past_only 98 t r g ∙ ap (λ y. 98 ∷ y) x.1 ∙ ap (λ y. side_letter y ∷ rest) x.0
    go (Some r) q f g h = let x = some_parts White s r rest h in past_only 119 t r f ∙ ap (λ y. 119 ∷ y) x.1 ∙ ap (λ y. side_letter y ∷ rest) x.0

-- castling rights
rights_of : Bool → Bool → Bool → Bool → Rights
rights_of a b c d = record { white = record { kingside = a; queenside = b }; black = record { kingside = c; queenside = d } }

rights_back_in : (a b c d : Bool) (t : List ℕ) → read_rights (rights_text (rights_of a b c d) ++ (32 ∷ t)) ≡ Some (rights_of a b c d, 32 ∷ t)
unfolding read_rights read_castling rights_text rights_of
rights_back_in true true true true t = refl
rights_back_in true true true false t = refl
rights_back_in true true false true t = refl
rights_back_in true true false false t = refl
rights_back_in true false true true t = refl
rights_back_in true false true false t = refl
rights_back_in true false false true t = refl
rights_back_in true false false false t = refl
rights_back_in false true true true t = refl
rights_back_in false true true false t = refl
rights_back_in false true false true t = refl
rights_back_in false true false false t = refl
rights_back_in false false true true t = refl
rights_back_in false false true false t = refl
rights_back_in false false false true t = refl
rights_back_in false false false false t = refl

pub rights_back : (r : Rights) (t : List ℕ) → read_rights (rights_text r ++ (32 ∷ t)) ≡ Some (r, 32 ∷ t)
unfolding rights_of
rights_back r t = rights_back_in r.white.kingside r.white.queenside r.black.kingside r.black.queenside t

right_only : (byte : ℕ) (t : List ℕ) → t ≡ right_text byte (read_right byte t).0 ++ (read_right byte t).1
right_only byte t = go (past byte t) refl
  where
    go : (p : Option (List ℕ)) → past byte t ≡ p → t ≡ right_text byte (read_right byte t).0 ++ (read_right byte t).1
    go None e = rw e
    go (Some r) e = past_only byte t r e ∙ sym (ap (λ p. right_text byte (unwrap_or (with true p) (false, t)).0 ++ (unwrap_or (with true p) (false, t)).1) e)

castling_only : (king queen : ℕ) (t : List ℕ) →
    t ≡ right_text king (read_castling king queen t).0.kingside ++ (right_text queen (read_castling king queen t).0.queenside ++ (read_castling king queen t).1)
unfolding read_castling
castling_only king queen t = right_only king t ∙ ap (λ x. right_text king (read_right king t).0 ++ x) (right_only queen (read_right king t).1)

all_rights : Rights → List ℕ → List ℕ
all_rights r rest =
    right_text 75 r.white.kingside ++ (right_text 81 r.white.queenside ++ (right_text 107 r.black.kingside ++ (right_text 113 r.black.queenside ++ rest)))

all_rights_none : (a b c d : Bool) (rest : List ℕ) → no_right (rights_of a b c d) ≡ true → all_rights (rights_of a b c d) rest ≡ rest
unfolding all_rights rights_of
all_rights_none true b c d rest e = absurd (true≢false (sym e))
all_rights_none false true c d rest e = absurd (true≢false (sym e))
all_rights_none false false true d rest e = absurd (true≢false (sym e))
all_rights_none false false false true rest e = absurd (true≢false (sym e))
all_rights_none false false false false rest e = refl

all_rights_some : (r : Rights) (rest : List ℕ) → no_right r ≡ false → all_rights r rest ≡ rights_text r ++ rest
unfolding all_rights rights_text
all_rights_some r rest e = rw e (sym (simp append_assoc))

read_them : (t : List ℕ) → Rights
read_them t = record { white = (read_castling 75 81 t).0; black = (read_castling 107 113 (read_castling 75 81 t).1).0 }

behind_them : (t : List ℕ) → List ℕ
behind_them t = (read_castling 107 113 (read_castling 75 81 t).1).1

them_only : (t : List ℕ) → t ≡ all_rights (read_them t) (behind_them t)
unfolding all_rights read_them behind_them
them_only t =
    castling_only 75 81 t
    ∙ ap (λ x. right_text 75 (read_castling 75 81 t).0.kingside ++ (right_text 81 (read_castling 75 81 t).0.queenside ++ x)) (castling_only 107 113 (read_castling 75 81 t).1)

pub rights_only : (t : List ℕ) (r : Rights) (rest : List ℕ) → read_rights t ≡ Some (r, rest) → t ≡ rights_text r ++ rest
unfolding read_rights read_them behind_them rights_of rights_text
rights_only t r rest e =
    ⊎_elim (λ (n : no_right (read_them t) ≡ true).
    let f : with (read_them t) (past 45 (behind_them t)) ≡ Some (r, rest) = rw n at e in
    hyphen n (past 45 (behind_them t)) refl f)
    (λ (n : no_right (read_them t) ≡ false).
    let f : ◌≡◌ {A = Option (Rights × List ℕ)} (Some (read_them t, behind_them t)) (Some (r, rest)) = rw n at e in
    let x = some_parts (read_them t) r (behind_them t) rest f in
    them_only t ∙ all_rights_some (read_them t) (behind_them t) n ∙ ap (λ y. rights_text y ++ behind_them t) x.0 ∙ ap (λ y. rights_text r ++ y) x.1)
    (cases_Bool (no_right (read_them t)))
  where
    hyphen : no_right (read_them t) ≡ true → (o : Option (List ℕ)) → past 45 (behind_them t) ≡ o → with (read_them t) o ≡ Some (r, rest) → t ≡ rights_text r ++ rest
    hyphen n None q f = absurd (none_some (r, rest) f)
    hyphen n (Some s) q f =
        let x = some_parts (read_them t) r s rest f in
        let h : rights_text (read_them t) ≡ 45 ∷ [] = rw n in
        them_only t
        ∙ all_rights_none (read_them t).white.kingside (read_them t).white.queenside (read_them t).black.kingside (read_them t).black.queenside (behind_them t) n
        ∙ past_only 45 (behind_them t) s q
        ∙ ap (λ y. y ++ s) (sym h)
        ∙ ap (λ y. rights_text y ++ s) x.0
        ∙ ap (λ y. rights_text r ++ y) x.1

-- the en passant square
eighth_back : (first n : ℕ) (t : List ℕ) → n < 8 → read_eighth first ((first + n) ∷ t) ≡ Some (n, t)
eighth_back first n t h =
    let a : (leb first (first + n) && ltb (first + n) (first + 8)) ≡ true = and_from _ _ (le-leb first (first + n) (omega arith)) (lt-ltb (first + n) (first + 8) (omega arith)) in
    let b : first + n - first ≡ n = omega arith in
    rw (a, b)

eighth_only : (first : ℕ) (t : List ℕ) (n : ℕ) (rest : List ℕ) → read_eighth first t ≡ Some (n, rest) → (n < 8) × (t ≡ (first + n) ∷ rest)
eighth_only first [] n rest e = absurd (none_some (n, rest) e)
eighth_only first (b ∷ t) n rest e =
    ⊎_elim (λ (z : (leb first b && ltb b (first + 8)) ≡ true).
    let f : ◌≡◌ {A = Option (ℕ × List ℕ)} (Some (b - first, t)) (Some (n, rest)) = rw z at e in
    let x = some_parts (b - first) n t rest f in
    let p = and_parts _ _ z in
    let lo = leb-true first b p.0 in
    let hi = ltb-true b (first + 8) p.1 in
    let m = x.0 in
    let v : b ≡ first + n = omega arith in
    (omega arith, ap (λ y. y ∷ t) v ∙ ap (λ y. (first + n) ∷ y) x.1))
    (λ (z : (leb first b && ltb b (first + 8)) ≡ false). let f = rw z at e in absurd (none_some (n, rest) f)) (cases_Bool (leb first b && ltb b (first + 8)))

pub en_passant_back : (o : Option ℕ) (t : List ℕ) → IfSome o (λ s. s < 64) → read_en_passant (en_passant_text o ++ t) ≡ Some (o, t)
en_passant_back None t h = refl
en_passant_back (Some s) t h =
    let z : eqb (97 + s % 8) 45 ≡ false = ne_eqb _ _ (λ q. omega arith) in
    let v : 8 * (s / 8) + s % 8 ≡ s = omega arith in
    rw (z, eighth_back 97 (s % 8) ((49 + s / 8) ∷ t) (omega arith), eighth_back 49 (s / 8) t (omega arith), v)

pub en_passant_only : (t : List ℕ) (o : Option ℕ) (rest : List ℕ) → read_en_passant t ≡ Some (o, rest) → t ≡ en_passant_text o ++ rest
en_passant_only t o rest e = go (past 45 t) refl e
  where
    go : (p : Option (List ℕ)) → past 45 t ≡ p → option_or (with None p) (then (read_square t) (λ s rest. Some (Some s, rest))) ≡ Some (o, rest) → t ≡ en_passant_text o ++ rest
    go (Some r) f h = let x = some_parts {X = Option ℕ} None o r rest h in past_only 45 t r f ∙ ap (λ y. 45 ∷ y) x.1 ∙ ap (λ y. en_passant_text y ++ rest) x.0
    go None f h =
        let p = then_parts (read_square t) (λ s rest. Some (Some s, rest)) (o, rest) h in
        let x = some_parts {X = Option ℕ} (Some p.value) o p.rest rest p.next in
        let q = then_parts (read_eighth 97 t) (λ file t. then (read_eighth 49 t) (λ rank t. Some (8 * rank + file, t))) (p.value, p.rest) p.read in
        let r = then_parts (read_eighth 49 q.rest) (λ rank t. Some (8 * rank + q.value, t)) (p.value, p.rest) q.next in
        let y = some_parts (8 * r.value + q.value) p.value r.rest p.rest r.next in
        let a = eighth_only 97 t q.value q.rest q.read in
        let b = eighth_only 49 q.rest r.value r.rest r.read in
        let a0 = a.0 in
        let b0 = b.0 in
        let y0 = y.0 in
        let file : 97 + q.value ≡ 97 + p.value % 8 = omega arith in
        let rank : 49 + r.value ≡ 49 + p.value / 8 = omega arith in
        a.1 ∙ ap (λ z. (97 + q.value) ∷ z) (b.1 ∙ ap (λ z. (49 + r.value) ∷ z) (y.1 ∙ x.1))
        ∙ ap (λ z. z ∷ (49 + r.value) ∷ rest) file ∙ ap (λ z. (97 + p.value % 8) ∷ z ∷ rest) rank
        ∙ ap (λ z. en_passant_text z ++ rest) x.0
