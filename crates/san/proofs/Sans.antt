-- The SAN of a legal move tells it from every other.
use Rattle.std.proofs.Common.{◌≡◌, ℕ, Bool, true, false, List, [], ◌∷◌, ◌++◌, codes as bytes, Option, sym, refl, ap, ◌∙◌, subst, inl, inr, arith}
use Rattle.std.proofs.lemmas.List.{append_assoc}
use Rattle.std.proofs.lemmas.Bool.{cases_Bool, cond-true, cond-false, eq-eqb, ne_eqb}
use Rattle.board.specs.Attack.{in_check}
use Rattle.rules.specs.Parts.{Parts}
use Rattle.rules.specs.Move.{Move, mover, is_castling, is_capture}
use Rattle.rules.specs.After.{after}
use Rattle.rules.specs.Lawful.{lawful}
use Rattle.rules.specs.Legal.{legal, can_move}
use Rattle.rules.proofs.LawfulParts.{lawful_parts}
use Rattle.rules.proofs.LegalLaws.{Legal, legal_parts, legal_from, legal_promotion}
use Rattle.san.specs.Said.{Said, castling, going, is_queenside, matches, only, origin_mark, said}
use Rattle.san.specs.Written.{promotion_text, said_text, suffix, san}
use Rattle.san.specs.Text.{read_text, matched, move_answer, CheckMark, PromotionText, Spells, piece, kingside, queenside}
use Rattle.san.specs.Theorems.{ReadsSpelling, ReadsBack, MatchesAlone, TellsApart}
use Rattle.san.proofs.Marks.{own_kind, said_castling, said_going, going_said, file_small, rank_small}
use Rattle.san.proofs.Alone.{said_own, said_alone}
use Rattle.san.proofs.Reading.{spelled, spells_read}
use Rattle.san.proofs.Spelling.{some_said, read_spells}
use Rattle.san.proofs.Listing.{matching_one}

suffix_is : (p : Parts) → CheckMark (suffix p)
unfolding suffix
suffix_is p = by (in_check p.side p.codes) (can_move p)
  where
    by : (a b : Bool) → CheckMark (elim a [ true ↦ elim b [ true ↦ 43 ∷ [] | false ↦ 35 ∷ [] ] | false ↦ [] ])
    by true true = inr (inl refl)
    by true false = inr (inr refl)
    by false b = inl refl

promotion_is : (p : Parts) (m : Move) → Legal p m → PromotionText m.promotion (promotion_text m.promotion)
promotion_is p m l = elim (legal_promotion p m l) [
  | inl z ↦ inl (z, cond-true _ _ _ (eq-eqb _ _ z))
  | inr (_, a, b) ↦ inr (a, b, inr (cond-false _ _ _ (ne_eqb m.promotion 0 (λ z. omega arith))))
]

castling_spelled : (q x : Bool) (c : List ℕ) → CheckMark c → Spells (said_text (castling q) x ++ c) (castling q)
unfolding said_text
castling_spelled true x c h = queenside (bytes "O-O-O") c (inl refl) h
castling_spelled false x c h = kingside (bytes "O-O") c (inl refl) h

going_spelled : (k : ℕ) (f r : Option ℕ) (t q : ℕ) (x : Bool) (c : List ℕ) → said_text (going k f r t q) x ++ c ≡ spelled k f r x t (promotion_text q) c
unfolding said_text
going_spelled k f r t q x c = simp append_assoc

-- the SAN of a legal move spells what is said of it
pub san_spells : (p : Parts) (m : Move) → lawful p ≡ true → legal p m ≡ true → Spells (san p m) (said p m)
unfolding san
san_spells p m w h =
    let l = legal_parts p m h in
    let c = suffix_is (after p m) in
    elim (cases_Bool (is_castling p m)) [
      | inl e ↦ subst (λ (s : Said). Spells (said_text s (is_capture p m) ++ suffix (after p m)) s) (sym (said_castling p m e)) (castling_spelled (is_queenside m) _ _ c)
      | inr e ↦
          let i = legal_from p m (lawful_parts p w).shown.0 l in
          let k = own_kind p.side (mover p m) l.own in
          subst (λ (s : Said). Spells (said_text s (is_capture p m) ++ suffix (after p m)) s) (sym (said_going p m e))
          (subst (λ (t : List ℕ). Spells t (going_said p m)) (sym (going_spelled _ _ _ m.to m.promotion _ _))
          (piece _ _ _ (is_capture p m) m.to m.promotion _ _ k.least k.most (file_small (origin_mark p m) _ (omega arith)) (rank_small (origin_mark p m) _ (omega arith)) l.inside (promotion_is p m l) c))
    ]

pub reads_spelling : ReadsSpelling
reads_spelling t s = (read_spells t s, spells_read t s)

pub matches_alone : MatchesAlone
matches_alone p m w h = (spells_read _ _ (san_spells p m w h), said_own p m w h, λ n k. said_alone p m n w h k)

pub tells_apart : TellsApart
tells_apart p m n w hm hn e =
    let a = matches_alone p m w hm in
    let b = matches_alone p n w hn in
    let s : said p n ≡ said p m = some_said _ _ (sym b.0 ∙ ap read_text (sym e) ∙ a.0) in
    b.2 m hm (subst (λ (x : Said). matches p x m ≡ true) (sym s) a.1)

pub reads_back : ReadsBack
unfolding move_answer
reads_back p m w h =
    let a = matches_alone p m w h in
    ap (matched p) a.0 ∙ ap only (matching_one p (said p m) m w h a.1 a.2)
