-- Kinds and origin marks: what they tell of the piece that moves.
use Rattle.std.proofs.Common.{◌≡◌, ℕ, ◌-◌, ◌<◌, ◌≤◌, Bool, true, false, cond, not, eqb, leb, ◌⊎◌, IfSome, sym, refl, ap, ◌∙◌, subst, inl, inr, arith}
use Rattle.std.proofs.lemmas.Bool.{and_parts, and_from, eqb-true, eq-eqb, ne_eqb, leb-true, lt-leb, not_from_false, both_ways, cases_eq, cases_Bool, cond-true, cond-false}
use Rattle.board.specs.declared.side.Side.{Side}
use Rattle.board.specs.declared.side.Side.TheVariants.{White, Black}
use Rattle.board.specs.declared.piece.Kind.TheVariants.{Pawn}
use Rattle.board.specs.Geometry.{file, rank}
use Rattle.board.specs.Piece.{code}
use Rattle.board.proofs.BelowLaws.{then_from, some_from}
use Rattle.rules.specs.Parts.{Parts}
use Rattle.rules.specs.Move.{Move, mover, is_pawn_move, is_castling, is_capture}
use Rattle.rules.specs.After.{coloured}
use Rattle.rules.specs.Legal.{of_side, legal}
use Rattle.san.specs.Said.{Said, castling, going, kind_of, kind, is_queenside, agrees, file_agrees, from_square, rival_on, rival, rival_on_file, rival_on_rank, Mark, unmarked, by_file, by_rank, by_both, piece_mark, origin_mark, marked_file, marked_rank, said}

-- a move by its three numbers
pub same_move : (m n : Move) → m.from ≡ n.from → m.to ≡ n.to → m.promotion ≡ n.promotion → m ≡ n
same_move m n a b c = λ i. record { from = a i; to = b i; promotion = c i }

-- the kind of an own piece, and its code by its kind
pub record OwnKind (v : Side) (c : ℕ) : Type 0 where
  pub least : 1 ≤ kind_of c
  pub most : kind_of c ≤ 6
  pub coded : c ≡ coloured v (kind_of c)

pub own_kind : (v : Side) (c : ℕ) → of_side v c ≡ true → OwnKind v c
own_kind White c h =
    let a = and_parts (leb 1 c) (leb c 6) h in
    let e : kind_of c ≡ c = cond-true _ c (c - 6) a.1 in
    let x = leb-true 1 c a.0 in
    let y = leb-true c 6 a.1 in
    record { least = omega arith; most = omega arith; coded = sym e }
own_kind Black c h =
    let a = and_parts (leb 7 c) (leb c 12) h in
    let x = leb-true 7 c a.0 in
    let y = leb-true c 12 a.1 in
    let e : kind_of c ≡ c - 6 = cond-false _ c (c - 6) (lt-leb c 6 (omega arith)) in
    record { least = omega arith; most = omega arith; coded = omega arith }

pub same_kind : (v : Side) (c d : ℕ) → of_side v c ≡ true → of_side v d ≡ true → kind_of c ≡ kind_of d → c ≡ d
same_kind v c d h k e = (own_kind v c h).coded ∙ ap (coloured v) e ∙ sym (own_kind v d k).coded

pub pawn_kind : (v : Side) (c : ℕ) → c ≡ code v Pawn → kind_of c ≡ 1
pawn_kind White c e = rw e
pawn_kind Black c e = rw e

pub kind_pawn : (v : Side) (c : ℕ) → of_side v c ≡ true → kind_of c ≡ 1 → c ≡ code v Pawn
kind_pawn v c h e = (own_kind v c h).coded ∙ ap (coloured v) e ∙ one v
  where
    one : (v : Side) → coloured v 1 ≡ code v Pawn
    one White = refl
    one Black = refl

-- the arm that a test takes
pub first_arm : {A : Type 0} (b : Bool) (x y : A) → b ≡ true → (elim b [ true ↦ x | false ↦ y ]) ≡ x
first_arm true x y e = refl
first_arm false x y e = absurd (both_ways false refl e)

pub second_arm : {A : Type 0} (b : Bool) (x y : A) → b ≡ false → (elim b [ true ↦ x | false ↦ y ]) ≡ y
second_arm false x y e = refl
second_arm true x y e = absurd (both_ways true e refl)

-- what is said of castling, and of another move
pub said_castling : (p : Parts) (m : Move) → is_castling p m ≡ true → said p m ≡ castling (is_queenside m)
unfolding said
said_castling p m e = first_arm (is_castling p m) _ _ e

abbrev pub going_said : Parts → Move → Said
going_said p m =
    going (kind p m) (marked_file (origin_mark p m) (file m.from)) (marked_rank (origin_mark p m) (rank m.from)) m.to m.promotion

pub said_going : (p : Parts) (m : Move) → is_castling p m ≡ false → said p m ≡ going_said p m
unfolding said
said_going p m e = second_arm (is_castling p m) _ _ e

pub pawn_mark : (p : Parts) (m : Move) → is_pawn_move p m ≡ true → origin_mark p m ≡ cond (is_capture p m) by_file unmarked
unfolding origin_mark
pawn_mark p m e = first_arm (is_pawn_move p m) _ _ e

other_mark : (p : Parts) (m : Move) → is_pawn_move p m ≡ false → origin_mark p m ≡ piece_mark p m
unfolding origin_mark
other_mark p m e = second_arm (is_pawn_move p m) _ _ e

-- marks lie on the board
pub file_small : (k : Mark) (n : ℕ) → n < 8 → IfSome (marked_file k n) (λ i. i < 8)
file_small unmarked n h = tt
file_small by_file n h = h
file_small by_rank n h = tt
file_small by_both n h = h

pub rank_small : (k : Mark) (n : ℕ) → n < 8 → IfSome (marked_rank k n) (λ i. i < 8)
rank_small unmarked n h = tt
rank_small by_file n h = tt
rank_small by_rank n h = h
rank_small by_both n h = h

-- a move's own marks agree with it
pub file_own : (o : Mark) (k f t : ℕ) → (k ≡ 1 → (o ≡ by_file) ⊎ ((o ≡ unmarked) × (f ≡ file t))) → file_agrees k (marked_file o f) f t ≡ true
file_own o k f t h = elim (cases_Bool (eqb k 1)) [
  | inl e ↦ elim (h (eqb-true _ _ e)) [
    | inl x ↦ subst (λ (o : Mark). file_agrees k (marked_file o f) f t ≡ true) (sym x) (eq-eqb f f refl)
    | inr (x, y) ↦ subst (λ (o : Mark). file_agrees k (marked_file o f) f t ≡ true) (sym x) (cond-true _ _ _ e ∙ eq-eqb _ _ y)
  ]
  | inr e ↦ other o e
]
  where
    other : (o : Mark) → eqb k 1 ≡ false → file_agrees k (marked_file o f) f t ≡ true
    other unmarked e = cond-false _ _ _ e
    other by_file e = eq-eqb f f refl
    other by_rank e = cond-false _ _ _ e
    other by_both e = eq-eqb f f refl

pub rank_own : (o : Mark) (r : ℕ) → agrees (marked_rank o r) r ≡ true
rank_own unmarked r = refl
rank_own by_file r = refl
rank_own by_rank r = eq-eqb r r refl
rank_own by_both r = eq-eqb r r refl

-- the mark by whether there is a rival, one on the file and one on the rank
abbrev mark_by : Bool → Bool → Bool → Mark
mark_by a b c =
    elim a [
      | false ↦ unmarked
      | true ↦ elim b [
        | false ↦ by_file
        | true ↦ elim c [ false ↦ by_rank | true ↦ by_both ]
      ]
    ]

-- where a rival agrees with the mark, it shares file and rank
marks_tell : (a b c : Bool) (k f r f' r' t : ℕ) → a ≡ true → (f ≡ f' → b ≡ true) → (r ≡ r' → c ≡ true)
    → file_agrees k (marked_file (mark_by a b c) f) f' t ≡ true → agrees (marked_rank (mark_by a b c) r) r' ≡ true → (f ≡ f') × (r ≡ r')
marks_tell false b c k f r f' r' t e hb hc x y = absurd (both_ways false refl e)
marks_tell true false c k f r f' r' t e hb hc x y = absurd (both_ways false refl (hb (eqb-true _ _ x)))
marks_tell true true false k f r f' r' t e hb hc x y = absurd (both_ways false refl (hc (eqb-true _ _ y)))
marks_tell true true true k f r f' r' t e hb hc x y = (eqb-true _ _ x, eqb-true _ _ y)

-- the origin mark tells a piece other than a pawn
pub piece_told : (p : Parts) (m n : Move) → is_pawn_move p m ≡ false → legal p n ≡ true → n.from < 64
    → mover p n ≡ mover p m → n.to ≡ m.to → n.promotion ≡ m.promotion
    → file_agrees (kind p m) (marked_file (origin_mark p m) (file m.from)) (file n.from) m.to ≡ true
    → agrees (marked_rank (origin_mark p m) (rank m.from)) (rank n.from) ≡ true → n.from ≡ m.from
unfolding piece_mark rival_on rival rival_on_file rival_on_rank
piece_told p m n np ln inside k t q hf hr =
    elim (cases_eq n.from m.from) [
      | inl e ↦ e
      | inr d ↦
          let l : legal p (from_square m n.from) ≡ true = subst (λ (x : Move). legal p x ≡ true) (same_move n (from_square m n.from) refl t q) ln in
          let r : rival_on p m n.from ≡ true =
          then_from _ _ (and_from (eqb (mover p n) (mover p m)) (not (eqb n.from m.from)) (eq-eqb _ _ k) (not_from_false _ (ne_eqb _ _ d))) l in
          let some : rival p m ≡ true = some_from 64 (rival_on p m) n.from inside r in
          let on_file : file m.from ≡ file n.from → rival_on_file p m ≡ true = λ e. some_from 64 _ n.from inside (then_from _ _ (eq-eqb _ _ (sym e)) r) in
          let on_rank : rank m.from ≡ rank n.from → rival_on_rank p m ≡ true = λ e. some_from 64 _ n.from inside (then_from _ _ (eq-eqb _ _ (sym e)) r) in
          let o = other_mark p m np in
          let x = marks_tell (rival p m) (rival_on_file p m) (rival_on_rank p m) (kind p m) (file m.from) (rank m.from) (file n.from) (rank n.from) m.to some on_file on_rank
          (subst (λ (o : Mark). file_agrees (kind p m) (marked_file o (file m.from)) (file n.from) m.to ≡ true) o hf)
          (subst (λ (o : Mark). agrees (marked_rank o (rank m.from)) (rank n.from) ≡ true) o hr) in
          let a = x.0 in
          let b = x.1 in
          omega arith
    ]
