-- The laws of decimal numbers: what is written reads back, and what is read was written so.
use Rattle.std.proofs.Common.{◌≡◌, ℕ, zero, suc, ◌+◌, ◌-◌, ◌*◌, ◌/◌, ◌%◌, ◌^◌, ◌<◌, ◌≤◌, true, false, eqb, List, [], ◌∷◌, ◌++◌, length, get_or, take, drop, slice_range, Some, None, sym, refl, ap, ◌∙◌, subst, ⊎_elim, append_assoc, length-append, arith}
use Rattle.std.proofs.lemmas.List.{take-append-drop, drop_at}
use Rattle.std.proofs.lemmas.Slice.{between_to_end}
use Rattle.std.specs.Fmt.{decimal}
use Rattle.std.proofs.lemmas.Fmt.{decimal_by_steps}
use Rattle.std.proofs.lemmas.Bool.{lt-ltb, le-ltb, le-leb, eq-eqb, ne_eqb, eqb-true, eqb-false, leb-true, and_from, and_parts, cases_lt, cases_Bool}
use Rattle.std.proofs.lemmas.Bool.Decides.{nat_tests}
use Rattle.notation.specs.Decimal.{digits_in, digits, is_digit, starts_digit, capped, read_digits, read_number}

-- enough fuel is enough
in_one : (k n : ℕ) → n < 10 → digits_in (suc k) n ≡ (48 + n) ∷ []
unfolding digits_in
in_one k n h = rw (lt-ltb n 10 h, digits_in)

in_more : (k n : ℕ) → 10 ≤ n → digits_in (suc k) n ≡ digits_in k (n / 10) ++ ((48 + n % 10) ∷ [])
unfolding digits_in
in_more k n h = rw (le-ltb n 10 h, digits_in)

in_same : (k j n : ℕ) → n < k → n < j → digits_in k n ≡ digits_in j n
in_same zero j n h l = absurd (omega arith)
in_same (suc k) zero n h l = absurd (omega arith)
in_same (suc k) (suc j) n h l =
    ⊎_elim (λ (s : n < 10). in_one k n s ∙ sym (in_one j n s))
    (λ (s : 10 ≤ n). in_more k n s ∙ ap (λ x. x ++ ((48 + n % 10) ∷ [])) (in_same k j (n / 10) (omega arith) (omega arith)) ∙ sym (in_more j n s)) (cases_lt n 10)

pub digits_one : (n : ℕ) → n < 10 → digits n ≡ (48 + n) ∷ []
unfolding digits
digits_one n h = in_one n n h

pub digits_more : (n : ℕ) → 10 ≤ n → digits n ≡ digits (n / 10) ++ ((48 + n % 10) ∷ [])
unfolding digits
digits_more n h = in_more n n h ∙ ap (λ x. x ++ ((48 + n % 10) ∷ [])) (in_same n (suc (n / 10)) (n / 10) (omega arith) (omega arith))

-- one digit more behind a number that is not 0
pub digits_push : (n d : ℕ) → 1 ≤ n → d < 10 → digits (10 * n + d) ≡ digits n ++ ((48 + d) ∷ [])
digits_push n d h l =
    let q : (10 * n + d) / 10 ≡ n = omega arith in
    let r : (10 * n + d) % 10 ≡ d = omega arith in
    digits_more (10 * n + d) (omega arith) ∙ rw (q, r)

pub digit_code : (d : ℕ) → d < 10 → is_digit (48 + d) ≡ true
digit_code d h = and_from _ _ (le-leb 48 (48 + d) (omega arith)) (le-leb (48 + d) 57 (omega arith))

pub digits_step : (v b : ℕ) (t : List ℕ) → is_digit b ≡ true → read_digits v (b ∷ t) ≡ read_digits (capped (10 * v + (b - 48))) t
unfolding read_digits
digits_step v b t e = rw (e, read_digits)

pub digits_end : (v : ℕ) (t : List ℕ) → starts_digit t ≡ false → read_digits v t ≡ (v, t)
unfolding read_digits
digits_end v [] e = refl
digits_end v (b ∷ t) e = rw (e, read_digits)

reads_in : (k n : ℕ) (rest : List ℕ) → n < k → 1 ≤ n → n ≤ 65535 → read_digits 0 (digits n ++ rest) ≡ read_digits n rest
reads_in zero n rest h p l = absurd (omega arith)
reads_in (suc k) n rest h p l =
    ⊎_elim (λ (s : n < 10).
    let v : capped (10 * 0 + ((48 + n) - 48)) ≡ n = omega arith in
    rw (digits_one n s) (digits_step 0 (48 + n) rest (digit_code n s) ∙ ap (λ x. read_digits x rest) v))
    (λ (s : 10 ≤ n).
    let v : capped (10 * (n / 10) + ((48 + n % 10) - 48)) ≡ n = omega arith in
    ap (λ x. read_digits 0 (x ++ rest)) (digits_more n s)
    ∙ ap (read_digits 0) (append_assoc (digits (n / 10)) ((48 + n % 10) ∷ []) rest)
    ∙ reads_in k (n / 10) ((48 + n % 10) ∷ rest) (omega arith) (omega arith) (omega arith)
    ∙ digits_step (n / 10) (48 + n % 10) rest (digit_code (n % 10) (omega arith))
    ∙ ap (λ x. read_digits x rest) v) (cases_lt n 10)

-- a number that is not 0 has a first digit, and that is not 0
record Leads (n : ℕ) : Type 0 where
  first : ℕ
  more : List ℕ
  is : digits n ≡ first ∷ more
  low : 49 ≤ first
  high : first ≤ 57

leads : (k n : ℕ) → n < k → 1 ≤ n → Leads n
leads zero n h p = absurd (omega arith)
leads (suc k) n h p =
    ⊎_elim (λ (s : n < 10). record { first = 48 + n; more = []; is = digits_one n s; low = omega arith; high = omega arith })
    (λ (s : 10 ≤ n).
    let x = leads k (n / 10) (omega arith) (omega arith) in
    record { first = x.first; more = x.more ++ ((48 + n % 10) ∷ []); is = digits_more n s ∙ ap (λ y. y ++ ((48 + n % 10) ∷ [])) x.is; low = x.low; high = x.high })
    (cases_lt n 10)

-- a number reads back
pub number_back : (n : ℕ) (rest : List ℕ) → n ≤ 65535 → starts_digit rest ≡ false → read_number (digits n ++ rest) ≡ Some (n, rest)
unfolding read_number
number_back n rest l e =
    ⊎_elim (λ (s : n < 1).
    let z : n ≡ 0 = omega arith in
    rw (digits_one n (omega arith), z, e))
    (λ (s : 1 ≤ n).
    let x = leads (suc n) n (omega arith) s in
    let ne : eqb x.first 48 ≡ false = ne_eqb _ _ (λ q. let a = x.low in omega arith) in
    let di : is_digit x.first ≡ true = and_from _ _ (le-leb 48 x.first (let a = x.low in omega arith)) (le-leb _ _ x.high) in
    ap (λ y. read_number (y ++ rest)) x.is ∙ rw (ne, di) (ap Some (ap (λ y. read_digits 0 (y ++ rest)) (sym x.is) ∙ reads_in (suc n) n rest (omega arith) s l ∙ digits_end n rest e)))
    (cases_lt n 1)

-- a value never falls
grows : (t : List ℕ) (v : ℕ) → v ≤ 65535 → v ≤ (read_digits v t).0
grows [] v h = rw (digits_end v [] refl) (omega arith)
grows (b ∷ t) v h =
    ⊎_elim (λ (e : is_digit b ≡ true). rw (digits_step v b t e) (let g = grows t (capped (10 * v + (b - 48))) (omega arith) in omega arith))
    (λ (e : is_digit b ≡ false). rw (digits_end v (b ∷ t) e) (omega arith)) (cases_Bool (is_digit b))

only_in : (t : List ℕ) (v w : ℕ) (rest : List ℕ) → read_digits v t ≡ (w, rest) → 1 ≤ v → w < 65535 → digits v ++ t ≡ digits w ++ rest
only_in [] v w rest e p l = let q = sym (digits_end v [] refl) ∙ e in let a : v ≡ w = ap (λ (x : ℕ × List ℕ). x.0) q in let b : [] ≡ rest = ap (λ (x : ℕ × List ℕ). x.1) q in cc
only_in (b ∷ t) v w rest e p l =
    ⊎_elim (λ (d : is_digit b ≡ true).
    let s = digits_step v b t d in
    let e' : read_digits (capped (10 * v + (b - 48))) t ≡ (w, rest) = sym s ∙ e in
    let f = ap (λ (x : ℕ × List ℕ). x.0) e' in
    let g = grows t (capped (10 * v + (b - 48))) (omega arith) in
    let k : capped (10 * v + (b - 48)) ≡ 10 * v + (b - 48) = omega arith in
    let dd = and_parts _ _ d in
    let lo = leb-true 48 b dd.0 in
    let hi = leb-true b 57 dd.1 in
    let bb : 48 + (b - 48) ≡ b = omega arith in
    let n = digits_push v (b - 48) p (omega arith) in
    sym (append_assoc (digits v) (b ∷ []) t)
    ∙ ap (λ x. (digits v ++ (x ∷ [])) ++ t) (sym bb)
    ∙ ap (λ x. x ++ t) (sym n)
    ∙ ap (λ x. digits x ++ t) (sym k)
    ∙ only_in t (capped (10 * v + (b - 48))) w rest e' (omega arith) l)
    (λ (d : is_digit b ≡ false). let q = sym (digits_end v (b ∷ t) d) ∙ e in let x : v ≡ w = ap (λ (x : ℕ × List ℕ). x.0) q in let y : (b ∷ t) ≡ rest = ap (λ (x : ℕ × List ℕ). x.1) q in cc) (cases_Bool (is_digit b))

-- a number that is read was written so
pub number_only : (t : List ℕ) (v : ℕ) (rest : List ℕ) → read_number t ≡ Some (v, rest) → v < 65535 → t ≡ digits v ++ rest
unfolding read_number
number_only [] v rest e l = cc
number_only (b ∷ t) v rest e l =
    ⊎_elim (λ (z : eqb b 48 ≡ true).
    ⊎_elim (λ (s : starts_digit t ≡ true). let e' = rw (z, s) at e in cc)
    (λ (s : starts_digit t ≡ false). let e' = rw (z, s) at e in let o = digits_one 0 (omega arith) in let y = eqb-true b 48 z in let q : (◌≡◌ {A = ℕ × List ℕ} (0, t) (v, rest)) = cc in let a : 0 ≡ v = ap (λ (x : ℕ × List ℕ). x.0) q in let b : t ≡ rest = ap (λ (x : ℕ × List ℕ). x.1) q in cc) (cases_Bool (starts_digit t)))
    (λ (z : eqb b 48 ≡ false).
    ⊎_elim (λ (s : is_digit b ≡ true).
    let e' = rw (z, s) at e in
    let f : read_digits 0 (b ∷ t) ≡ (v, rest) = cc in
    let dd = and_parts _ _ s in
    let lo = leb-true 48 b dd.0 in
    let hi = leb-true b 57 dd.1 in
    let ne = eqb-false b 48 z in
    let k : capped (10 * 0 + (b - 48)) ≡ b - 48 = omega arith in
    let bb : 48 + (b - 48) ≡ b = omega arith in
    let g : read_digits (b - 48) t ≡ (v, rest) = ap (λ x. read_digits x t) (sym k) ∙ sym (digits_step 0 b t s) ∙ f in
    ap (λ x. x ∷ t) (sym bb) ∙ ap (λ x. x ++ t) (sym (digits_one (b - 48) (omega arith))) ∙ only_in t (b - 48) v rest g (omega arith) l)
    (λ (s : is_digit b ≡ false). let e' = rw (z, s) at e in cc) (cases_Bool (is_digit b)))
    (cases_Bool (eqb b 48))

-- the digits of a number are those that std writes
pub digits_decimal : (n : ℕ) → n < 2 ^ 64 → decimal n ≡ digits n
digits_decimal = decimal_by_steps (λ m ds. ds ≡ digits m) (λ m l. sym (digits_one m l)) (λ m ds l h. ap (λ x. x ++ ((48 + m % 10) ∷ [])) h ∙ sym (digits_more m l))

no_digit : (b : ℕ) → (48 ≤ b → b ≤ 57 → ⊥) → is_digit b ≡ false
no_digit b h = grind (arith, nat_tests)

-- digits are read one by one, up to another byte or the end
pub digits_first : (v : ℕ) (t : List ℕ) → 1 ≤ length t → 48 ≤ get_or t 0 0 → get_or t 0 0 ≤ 57 →
    read_digits v t ≡ read_digits (capped (10 * v + (get_or t 0 0 - 48))) (drop 1 t)
digits_first v [] h l m = absurd (omega arith)
digits_first v (b ∷ t) h l m = digits_step v b t (and_from _ _ (le-leb 48 b l) (le-leb b 57 m))

pub digits_last : (v : ℕ) (t : List ℕ) → (1 ≤ length t → 48 ≤ get_or t 0 0 → get_or t 0 0 ≤ 57 → ⊥) → read_digits v t ≡ (v, t)
digits_last v [] h = digits_end v [] refl
digits_last v (b ∷ t) h = digits_end v (b ∷ t) (no_digit b (h (omega arith)))

-- a number by its first bytes
pub number_zeros : (t : List ℕ) → 2 ≤ length t → get_or t 0 0 ≡ 48 → 48 ≤ get_or t 1 0 → get_or t 1 0 ≤ 57 → read_number t ≡ None
unfolding read_number
number_zeros [] h e l m = absurd (omega arith)
number_zeros (b ∷ []) h e l m = absurd (omega arith)
number_zeros (b ∷ d ∷ t) h e l m = rw (eq-eqb b 48 e, le-leb 48 d l, le-leb d 57 m)

pub number_zero : (t : List ℕ) → 1 ≤ length t → get_or t 0 0 ≡ 48 → (2 ≤ length t → 48 ≤ get_or t 1 0 → get_or t 1 0 ≤ 57 → ⊥) → read_number t ≡ Some (0, drop 1 t)
unfolding read_number
number_zero [] h e l = absurd (omega arith)
number_zero (b ∷ []) h e l = rw (eq-eqb b 48 e)
number_zero (b ∷ d ∷ t) h e l = rw (eq-eqb b 48 e, no_digit d (l (omega arith)))

pub number_digits : (t : List ℕ) → 1 ≤ length t → 49 ≤ get_or t 0 0 → get_or t 0 0 ≤ 57 → read_number t ≡ Some (read_digits 0 t)
unfolding read_number
number_digits [] h l m = absurd (omega arith)
number_digits (b ∷ t) h l m = rw (ne_eqb b 48 (λ e. omega arith), le-leb 48 b (omega arith), le-leb b 57 m)

pub number_none : (t : List ℕ) → (1 ≤ length t → 48 ≤ get_or t 0 0 → get_or t 0 0 ≤ 57 → ⊥) → read_number t ≡ None
unfolding read_number
number_none [] h = refl
number_none (b ∷ t) h = let n = no_digit b (h (omega arith)) in rw (ne_eqb b 48 (λ e. h (omega arith) (omega arith) (omega arith)), n)

-- a number leaves the end of a text
pub record Ends (t rest : List ℕ) : Type 0 where
  pub front : List ℕ
  pub is : t ≡ front ++ rest

digits_leave : (t : List ℕ) (v : ℕ) → Ends t (read_digits v t).1
digits_leave [] v = rw (digits_end v [] refl) (record { front = []; is = refl })
digits_leave (b ∷ t) v =
    ⊎_elim (λ (d : is_digit b ≡ true).
    let e = digits_leave t (capped (10 * v + (b - 48))) in
    rw (digits_step v b t d) (record { front = b ∷ e.front; is = ap (λ x. b ∷ x) e.is }))
    (λ (d : is_digit b ≡ false). rw (digits_end v (b ∷ t) d) (record { front = []; is = refl })) (cases_Bool (is_digit b))

pub number_leaves : (t : List ℕ) (v : ℕ) (rest : List ℕ) → Some (v, rest) ≡ read_number t → Ends t rest
unfolding read_number
number_leaves [] v rest e = cc
number_leaves (b ∷ t) v rest e =
    ⊎_elim (λ (z : eqb b 48 ≡ true).
    ⊎_elim (λ (s : starts_digit t ≡ true). let e' = rw (z, s) at e in cc)
    (λ (s : starts_digit t ≡ false). let e' = rw (z, s) at e in let f : ◌≡◌ {A = ℕ × List ℕ} (v, rest) (0, t) = cc in record { front = b ∷ []; is = ap (λ (x : ℕ × List ℕ). b ∷ x.1) (sym f) }) (cases_Bool (starts_digit t)))
    (λ (z : eqb b 48 ≡ false).
    ⊎_elim (λ (s : is_digit b ≡ true). let e' = rw (z, s) at e in let f : rest ≡ (read_digits 0 (b ∷ t)).1 = cc in subst (λ x. Ends (b ∷ t) x) (sym f) (digits_leave (b ∷ t) 0))
    (λ (s : is_digit b ≡ false). let e' = rw (z, s) at e in cc) (cases_Bool (is_digit b)))
    (cases_Bool (eqb b 48))

-- the place of what is left behind a place
left_at : (t part : List ℕ) (at : ℕ) (rest : List ℕ) → part ≡ drop at t → Ends part rest → (length rest ≤ length t) × (drop (length t - length rest) t ≡ rest)
left_at t part at rest d e =
    let front = take at t ++ e.front in
    let w : t ≡ front ++ rest = sym (take-append-drop at t) ∙ ap (λ x. take at t ++ x) (sym d ∙ e.is) ∙ sym (append_assoc (take at t) e.front rest) in
    let l : length t ≡ length front + length rest = ap length w ∙ length-append front rest in
    (omega arith, ap (drop (length t - length rest)) w ∙ drop_at front rest (length t - length rest) (omega arith))

-- a number at a place, and the place behind it
pub record NumberAt (t : List ℕ) (at v : ℕ) (rest : List ℕ) : Type 0 where
  pub fits : length rest ≤ length t
  pub is : Some (v, drop (length t - length rest) t) ≡ read_number (drop at t)

pub number_at : (t : List ℕ) (at : ℕ) (part : List ℕ) (v : ℕ) (rest : List ℕ) → part ≡ slice_range t at (length t) → Some (v, rest) ≡ read_number part → NumberAt t at v rest
number_at t at part v rest p r =
    let d : part ≡ drop at t = p ∙ between_to_end t at (length t) (omega arith) in
    let l = left_at t part at rest d (number_leaves part v rest r) in
    record { fits = l.0; is = ap (λ x. Some (v, x)) l.1 ∙ r ∙ ap read_number d }
