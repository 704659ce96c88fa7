-- FEN reads back as what it was written from, and what is read is the FEN of what it says.
use Rattle.std.proofs.Common.{◌≡◌, ℕ, ◌*◌, ◌<◌, ◌≤◌, true, leb, List, [], ◌∷◌, ◌++◌, length, get_or, take, Some, Option, sym, refl, ap, ◌∙◌, ⊎_elim, arith}
use Rattle.std.proofs.lemmas.List.{append-nil, take_all, get_or_past}
use Rattle.std.proofs.lemmas.Bool.{and_parts, eqb-true, leb-true, cases_lt}
use Rattle.board.specs.declared.side.Side.{Side}
use Rattle.board.proofs.BelowLaws.{all_at}
use Rattle.rules.specs.declared.rights.Rights.{Rights}
use Rattle.rules.specs.Parts.{Parts}
use Rattle.rules.specs.Lawful.{is_board}
use Rattle.notation.specs.Reader.{then, behind}
use Rattle.notation.specs.Decimal.{digits, read_number}
use Rattle.notation.specs.Fields.{ranks_text, read_ranks, side_letter, read_side, rights_text, read_rights, en_passant_text, read_en_passant}
use Rattle.notation.specs.Fen.{fen, fen_parts, at_end, ReadsBack, OnlyFen}
use Rattle.notation.proofs.DecimalLaws.{number_back, number_only}
use Rattle.notation.proofs.RankLaws.{none_some, ranks_back, ranks_only, then_parts, behind_only}
use Rattle.notation.proofs.FieldLaws.{behind_back, side_back, side_only, rights_back, rights_only, en_passant_back, en_passant_only}

pub board_small : (codes : List ℕ) → is_board codes ≡ true → (length codes ≡ 64) × ((k : ℕ) → get_or codes k 0 ≤ 12)
unfolding is_board
board_small codes e =
    let p = and_parts _ _ e in
    let l = eqb-true (length codes) 64 p.0 in (
      l,
      λ k. ⊎_elim (λ (h : k < 64). leb-true (get_or codes k 0) 12 (all_at 64 (λ s. leb (get_or codes s 0) 12) p.1 k h))
          (λ (h : 64 ≤ k). let z = get_or_past codes k 0 (omega arith) in omega arith) (cases_lt k 64),
    )

pub reads_back : (p : Parts) → ReadsBack p
unfolding fen fen_parts
reads_back p b e c n =
    let s = board_small p.codes b in
    let sz = s.0 in
    let t5 = digits p.number in
    let t4 = digits p.clock ++ (32 ∷ t5) in
    let t3 = en_passant_text p.en_passant ++ (32 ∷ t4) in
    let t2 = rights_text p.rights ++ (32 ∷ t3) in
    let t1 = side_letter p.side ∷ 32 ∷ t2 in
    let all : take (8 * 8) p.codes ++ [] ≡ p.codes = append-nil (take 64 p.codes) ∙ take_all 64 p.codes (omega arith) in
    let e0 : read_ranks 8 [] (ranks_text 8 p.codes ++ t1) ≡ Some (p.codes, t1) = ranks_back 8 [] p.codes t1 s.1 (omega arith) ∙ ap (λ x. Some (x, t1)) all in
    let e1 = behind_back 32 (read_side t1) p.side t2 (side_back p.side (32 ∷ t2)) in
    let e2 = behind_back 32 (read_rights t2) p.rights t3 (rights_back p.rights t3) in
    let e3 = behind_back 32 (read_en_passant t3) p.en_passant t4 (en_passant_back p.en_passant (32 ∷ t4) e) in
    let e4 = behind_back 32 (read_number t4) p.clock t5 (number_back p.clock (32 ∷ t5) (omega arith) refl) in
    let e5 : read_number t5 ≡ Some (p.number, []) = ap read_number (sym (append-nil t5)) ∙ number_back p.number [] (omega arith) refl in
    rw (e0, e1, e2, e3, e4, e5)

-- what is left to read behind each field
abbrev with_number : List ℕ → Side → Rights → Option ℕ → ℕ → List ℕ → Option Parts
with_number codes side rights square clock t =
    then (read_number t) (λ number t. at_end (record { codes = codes; side = side; rights = rights; en_passant = square; clock = clock; number = number }) t)

abbrev with_clock : List ℕ → Side → Rights → Option ℕ → List ℕ → Option Parts
with_clock codes side rights square t = then (behind 32 (read_number t)) (λ clock t. with_number codes side rights square clock t)

abbrev with_square : List ℕ → Side → Rights → List ℕ → Option Parts
with_square codes side rights t = then (behind 32 (read_en_passant t)) (λ square t. with_clock codes side rights square t)

abbrev with_rights : List ℕ → Side → List ℕ → Option Parts
with_rights codes side t = then (behind 32 (read_rights t)) (λ rights t. with_square codes side rights t)

abbrev with_side : List ℕ → List ℕ → Option Parts
with_side codes t = then (behind 32 (read_side t)) (λ side t. with_rights codes side t)

ended : (q p : Parts) (t : List ℕ) → at_end q t ≡ Some p → (q ≡ p) × (t ≡ [])
ended q p [] e = (let z : q ≡ p = cc in z, refl)
ended q p (b ∷ t) e = absurd (none_some p e)

pub only_fen : (t : List ℕ) (p : Parts) → OnlyFen t p
unfolding fen fen_parts
only_fen t p e c n =
    let a0 = then_parts (read_ranks 8 [] t) (λ codes t. with_side codes t) p e in
    let a1 = then_parts (behind 32 (read_side a0.rest)) (λ side t. with_rights a0.value side t) p a0.next in
    let a2 = then_parts (behind 32 (read_rights a1.rest)) (λ rights t. with_square a0.value a1.value rights t) p a1.next in
    let a3 = then_parts (behind 32 (read_en_passant a2.rest)) (λ square t. with_clock a0.value a1.value a2.value square t) p a2.next in
    let a4 = then_parts (behind 32 (read_number a3.rest)) (λ clock t. with_number a0.value a1.value a2.value a3.value clock t) p a3.next in
    let q : ℕ → Parts = λ m. record { codes = a0.value; side = a1.value; rights = a2.value; en_passant = a3.value; clock = a4.value; number = m } in
    let a5 = then_parts (read_number a4.rest) (λ number t. at_end (q number) t) p a4.next in
    let z = ended (q a5.value) p a5.rest a5.next in
    let zc : a4.value ≡ p.clock = ap (λ x. x.clock) z.0 in
    let zn : a5.value ≡ p.number = ap (λ x. x.number) z.0 in
    let r0 = ranks_only 8 [] t a0.value a0.rest a0.read in
    let codes : r0.lower ++ [] ≡ a0.value = sym r0.whole in
    let f0 : t ≡ ranks_text 8 a0.value ++ a0.rest = r0.text [] ∙ ap (λ x. ranks_text 8 x ++ a0.rest) codes in
    let f1 = side_only a0.rest a1.value (32 ∷ a1.rest) (behind_only 32 (read_side a0.rest) a1.value a1.rest a1.read) in
    let f2 = rights_only a1.rest a2.value (32 ∷ a2.rest) (behind_only 32 (read_rights a1.rest) a2.value a2.rest a2.read) in
    let f3 = en_passant_only a2.rest a3.value (32 ∷ a3.rest) (behind_only 32 (read_en_passant a2.rest) a3.value a3.rest a3.read) in
    let f4 = number_only a3.rest a4.value (32 ∷ a4.rest) (behind_only 32 (read_number a3.rest) a4.value a4.rest a4.read) (omega arith) in
    let f5 = number_only a4.rest a5.value a5.rest a5.read (omega arith) ∙ ap (λ x. digits a5.value ++ x) z.1 ∙ append-nil (digits a5.value) in
    ap fen (sym z.0)
    ∙ sym (f0 ∙ ap (λ x. ranks_text 8 a0.value ++ x)
    (f1 ∙ ap (λ x. side_letter a1.value ∷ 32 ∷ x)
    (f2 ∙ ap (λ x. rights_text a2.value ++ (32 ∷ x))
    (f3 ∙ ap (λ x. en_passant_text a3.value ++ (32 ∷ x))
    (f4 ∙ ap (λ x. digits a4.value ++ (32 ∷ x)) f5)))))
