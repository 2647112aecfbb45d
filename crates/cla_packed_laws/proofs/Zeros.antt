-- A tuple that is put among others, or taken away.
use Rattle.std.proofs.Common.{◌≡◌, ℕ, ℤ, pos, zero, suc, ◌+◌, ◌-◌, ◌<◌, ◌≤◌, Bool, true, false, cond, List, [], ◌∷◌}
use Rattle.std.proofs.Common.{◌++◌, length, get_or, take, drop, replicate, refl, sym, ap, ◌∙◌, append_assoc, arith}
use Rattle.std.proofs.Common.{inl, inr}
use Rattle.std.specs.Prelude.{nat_lt, map, None, Some, if◌then◌else◌}
use Rattle.std.specs.List.{AllByRecursion}
use Rattle.std.specs.Ordering.{int_eq}
use Rattle.std.proofs.lemmas.Bool.{cases_lt, cases_eq, lt-ltb, le-ltb, and_parts, and_from}
use Rattle.std.proofs.lemmas.Bool.Decides.{Decides-int_eq}
use Rattle.std.proofs.lemmas.List.{length-append, get_or_append_left, get_or_at, get_or-append-add, take_at, drop_at}
use Rattle.std.proofs.lemmas.List.{take-append-drop, drop_more, length-take-le}
use Rattle.cla_layout.specs.Canonical.{AreDistinct}
use Rattle.cla_packed.specs.Rests.{with_tuple, without_tuple, without_rest, Parts, parts_by, parts_in}
use Rattle.cla_layout.specs.Listed.{is_zero}
use Rattle.cla_packed.specs.Bodies.{Body}
use Rattle.cla_packed.specs.Lists.{lists_of}
use Rattle.std.specs.List.{position_or_len}

-- ---- tuples of zeros

-- the code of the rest; the number of tuples where there is none
abbrev pub rest_in : List (List ℤ) → ℕ
rest_in tuples = position_or_len is_zero tuples

abbrev pub parts_from : ℕ → Body → Parts
parts_from r body = if nat_lt r (length body.tuples)
    then (
      length body.tuples - 1,
      (
        1,
        (
          without_tuple r body.tuples,
          (lists_of (length body.tuples - 1) (map (without_rest (length body.tuples - 1) r) body.codes), tt),
        ),
      ),
    )
    else (length body.tuples, (0, (body.tuples, (lists_of (length body.tuples) body.codes, tt))))

parts_where : (test : Bool) (r : ℕ) (body : Body) → parts_by (if test then Some r else None) body
    ≡ (if test then parts_by (Some r) body else parts_by None body)
parts_where true r body = refl
parts_where false r body = refl

-- the rest is found by its place
pub parts_found : (body : Body) → parts_in body ≡ parts_from (rest_in body.tuples) body
parts_found body = parts_where (nat_lt (rest_in body.tuples) (length body.tuples)) (rest_in body.tuples) body

pub zeros_are : (width : ℕ) → is_zero (replicate width (pos 0)) ≡ true
zeros_are zero = refl
zeros_are (suc n) = and_from (int_eq (pos 0) (pos 0)) (is_zero (replicate n (pos 0)))
    ((Decides-int_eq (pos 0) (pos 0)).1 refl) (zeros_are n)

pub zero_is : (tuple : List ℤ) → is_zero tuple ≡ true → tuple ≡ replicate (length tuple) (pos 0)
zero_is [] h = refl
zero_is (v ∷ tuple) h =
    let p = and_parts (int_eq v (pos 0)) (is_zero tuple) h in
    λ i. ((Decides-int_eq v (pos 0)).0 p.0 i ∷ zero_is tuple p.1 i)

pub none_zero : (ts : List (List ℤ)) → AllByRecursion (λ t. is_zero t ≡ false) ts → rest_in ts ≡ length ts
none_zero [] h = refl
none_zero (t ∷ ts) h = rw (h.0, none_zero ts h.1) (omega arith)

pub zero_found : (xs ys : List (List ℤ)) (z : List ℤ) → AllByRecursion (λ t. is_zero t ≡ false) xs → is_zero z ≡ true
    → rest_in (xs ++ z ∷ ys) ≡ length xs
zero_found [] ys z h e = rw e refl
zero_found (x ∷ xs) ys z h e = rw (h.0, zero_found xs ys z h.1 e) (omega arith)

-- ---- one among others

abbrev slot : ℕ → ℕ → ℕ
slot n k = cond (nat_lt k n) k (k + 1)

moved : (xs ys : List (List ℤ)) (z : List ℤ) (k : ℕ) → get_or (xs ++ z ∷ ys) (slot (length xs) k) []
    ≡ get_or (xs ++ ys) k []
moved xs ys z k = elim (cases_lt k (length xs)) [
  | inl front ↦ rw (lt-ltb k (length xs) front) (get_or_append_left xs (z ∷ ys) [] k front
      ∙ sym (get_or_append_left xs ys [] k front))
  | inr back ↦
      let m = k - length xs in
      let one : k + 1 ≡ length xs + suc m = omega (arith, back) in
      let two : k ≡ length xs + m = omega (arith, back) in
      rw (le-ltb k (length xs) back) (ap (λ (i : ℕ). get_or (xs ++ z ∷ ys) i []) one
      ∙ get_or-append-add xs (z ∷ ys) (suc m) [] ∙ sym (get_or-append-add xs ys m [])
      ∙ ap (λ (i : ℕ). get_or (xs ++ ys) i []) (sym two))
]

slot_apart : (n k l : ℕ) → slot n k ≡ slot n l → k ≡ l
slot_apart n k l e = elim (cases_lt k n) [
  | inl kf ↦ elim (cases_lt l n) [
    | inl lf ↦ sym (ap (λ (b : Bool). cond b k (k + 1)) (lt-ltb k n kf)) ∙ e
        ∙ ap (λ (b : Bool). cond b l (l + 1)) (lt-ltb l n lf)
    | inr lb ↦ absurd (omega (
      arith,
      kf,
      lb,
      sym (ap (λ (b : Bool). cond b k (k + 1)) (lt-ltb k n kf)) ∙ e
          ∙ ap (λ (b : Bool). cond b l (l + 1)) (le-ltb l n lb),
    ))
  ]
  | inr kb ↦ elim (cases_lt l n) [
    | inl lf ↦ absurd (omega (
      arith,
      kb,
      lf,
      sym (ap (λ (b : Bool). cond b k (k + 1)) (le-ltb k n kb)) ∙ e
          ∙ ap (λ (b : Bool). cond b l (l + 1)) (lt-ltb l n lf),
    ))
    | inr lb ↦ omega (
      arith,
      sym (ap (λ (b : Bool). cond b k (k + 1)) (le-ltb k n kb)) ∙ e
          ∙ ap (λ (b : Bool). cond b l (l + 1)) (le-ltb l n lb),
    )
  ]
]

slot_within : (n k m : ℕ) → k < m → slot n k < suc m
slot_within n k m lt = elim (cases_lt k n) [
  | inl front ↦ rw (lt-ltb k n front) (omega (arith, lt))
  | inr back ↦ rw (le-ltb k n back) (omega (arith, lt))
]

longer : (xs ys : List (List ℤ)) (z : List ℤ) → length (xs ++ z ∷ ys) ≡ suc (length (xs ++ ys))
longer xs ys z = omega (arith, length-append xs (z ∷ ys), length-append xs ys)

pub distinct_without : (xs ys : List (List ℤ)) (z : List ℤ) → AreDistinct (xs ++ z ∷ ys) → AreDistinct (xs ++ ys)
distinct_without xs ys z h k l klt llt e =
    let n = length xs in
    slot_apart n k l (h (slot n k) (slot n l) (omega (
      arith,
      longer xs ys z,
      slot_within n k (length (xs ++ ys)) klt,
    )) (omega (
      arith,
      longer xs ys z,
      slot_within n l (length (xs ++ ys)) llt,
    ))
    (moved xs ys z k ∙ e ∙ sym (moved xs ys z l)))

pub apart_from_one : (xs ys : List (List ℤ)) (z : List ℤ) (k : ℕ) → AreDistinct (xs ++ z ∷ ys)
    → k < length (xs ++ ys) → get_or (xs ++ ys) k [] ≡ z → ⊥
apart_from_one xs ys z k h lt e =
    let n = length xs in
    let same = h (slot n k) n (omega (arith, longer xs ys z, slot_within n k (length (xs ++ ys)) lt))
    (omega (arith, length-append xs (z ∷ ys))) (moved xs ys z k ∙ e ∙ sym (get_or_at xs z ys [] n refl)) in
    elim (cases_lt k n) [
      | inl front ↦ omega (arith, front, sym (ap (λ (b : Bool). cond b k (k + 1)) (lt-ltb k n front)) ∙ same)
      | inr back ↦ omega (arith, back, sym (ap (λ (b : Bool). cond b k (k + 1)) (le-ltb k n back)) ∙ same)
    ]

abbrev Slot : ℕ → ℕ → ℕ → Type 0
Slot n m k = (j : ℕ) × (j < m) × (k ≡ slot n j)

slot_of : (n m k : ℕ) → n ≤ m → k < suc m → (k ≡ n → ⊥) → Slot n m k
slot_of n m k le lt other = elim (cases_lt k n) [
  | inl front ↦ (k, omega (arith, front, le), rw (lt-ltb k n front) refl)
  | inr back ↦ (
    k - 1,
    omega (arith, lt, back, other),
    rw (le-ltb (k - 1) n (omega (arith, back, other)))
        (omega (arith, back, other)),
  )
]

pub distinct_with : (xs ys : List (List ℤ)) (z : List ℤ) → AreDistinct (xs ++ ys)
    → ((k : ℕ) → k < length (xs ++ ys) → get_or (xs ++ ys) k [] ≡ z → ⊥) → AreDistinct (xs ++ z ∷ ys)
distinct_with xs ys z h apart k l klt llt e =
    let n = length xs in
    let m = length (xs ++ ys) in
    let le : n ≤ m = omega (arith, length-append xs ys) in
    let here = get_or_at xs z ys [] n refl in
    let at = λ (i : ℕ). get_or (xs ++ z ∷ ys) i [] in
    elim (cases_eq k n) [
      | inl k_here ↦ elim (cases_eq l n) [
        | inl l_here ↦ omega (arith, k_here, l_here)
        | inr l_other ↦ (let s = slot_of n m l le (omega (arith, llt, longer xs ys z)) l_other in
            absurd (apart s.0 s.1 (sym (moved xs ys z s.0) ∙ ap at (sym s.2) ∙ sym e ∙ ap at k_here ∙ here)))
      ]
      | inr k_other ↦ (let r = slot_of n m k le (omega (arith, klt, longer xs ys z)) k_other in elim (cases_eq l n) [
        | inl l_here ↦ absurd (apart r.0 r.1 (sym (moved xs ys z r.0) ∙ ap at (sym r.2) ∙ e ∙ ap at l_here ∙ here))
        | inr l_other ↦ (let s = slot_of n m l le (omega (arith, llt, longer xs ys z)) l_other in
            let same : r.0 ≡ s.0 = h r.0 s.0 r.1 s.1 (sym (moved xs ys z r.0) ∙ ap at (sym r.2) ∙ e ∙ ap at s.2
            ∙ moved xs ys z s.0) in
            r.2 ∙ ap (slot n) same ∙ sym s.2)
      ])
    ]

-- ---- parts

pub parts_is : (r : ℕ) (ts : List (List ℤ)) → r < length ts → ts ≡ take r ts ++ get_or ts r [] ∷ drop (r + 1) ts
parts_is r ts lt = sym (take-append-drop r ts) ∙ ap (λ (l : List (List ℤ)). take r ts ++ l) (drop_more ts r [] lt)

pub without_with : (r : ℕ) (z : List ℤ) (ts : List (List ℤ)) → r ≤ length ts → without_tuple r (with_tuple r z ts)
    ≡ ts
without_with r z ts le =
    let size : length (take r ts) ≡ r = length-take-le r ts le in
    let front : take r (take r ts ++ z ∷ drop r ts) ≡ take r ts = take_at (take r ts) (z ∷ drop r ts) r size in
    let assoc : take r ts ++ z ∷ drop r ts ≡ (take r ts ++ z ∷ []) ++ drop r ts =
    sym (append_assoc (take r ts) (z ∷ []) (drop r ts)) in
    let back : drop (r + 1) (take r ts ++ z ∷ drop r ts) ≡ drop r ts = ap (drop (r + 1)) assoc
    ∙ drop_at (take r ts ++ z ∷ []) (drop r ts) (r + 1)
    (omega (arith, size, length-append (take r ts) (z ∷ []))) in
    rw (front, back) (take-append-drop r ts)

pub with_without : (r : ℕ) (z : List ℤ) (ts : List (List ℤ)) → r < length ts → get_or ts r [] ≡ z
    → with_tuple r z (without_tuple r ts) ≡ ts
with_without r z ts lt e =
    let size : length (take r ts) ≡ r = length-take-le r ts (omega (arith, lt)) in
    rw (
      take_at (take r ts) (drop (r + 1) ts) r size,
      drop_at (take r ts) (drop (r + 1) ts) r size,
      ← e,
    ) (sym (parts_is r ts lt))

pub all-parts : (P : List ℤ → Type 0) (xs ys : List (List ℤ)) → AllByRecursion P (xs ++ ys) → AllByRecursion P xs
    × AllByRecursion P ys
all-parts P [] ys h = (tt, h)
all-parts P (x ∷ xs) ys h = (let more = all-parts P xs ys h.1 in ((h.0, more.0), more.1))

pub all-append : (P : List ℤ → Type 0) (xs ys : List (List ℤ)) → AllByRecursion P xs → AllByRecursion P ys
    → AllByRecursion P (xs ++ ys)
all-append P [] ys h g = g
all-append P (x ∷ xs) ys h g = (h.0, all-append P xs ys h.1 g)

pub all_in : (P : List ℤ → Type 0) (ts : List (List ℤ)) (k : ℕ) → AllByRecursion P ts → k < length ts
    → P (get_or ts k [])
all_in P [] k h lt = absurd (omega (arith, lt))
all_in P (t ∷ ts) zero h lt = h.0
all_in P (t ∷ ts) (suc k) h lt = all_in P ts k h.1 (omega (arith, lt))

pub all_out : (P : List ℤ → Type 0) (ts : List (List ℤ)) → ((k : ℕ) → k < length ts → P (get_or ts k []))
    → AllByRecursion P ts
all_out P [] h = tt
all_out P (t ∷ ts) h = (h 0 (omega arith), all_out P ts (λ k lt. h (suc k) (omega (arith, lt))))
