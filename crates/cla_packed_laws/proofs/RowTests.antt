-- Rows that pass their tests one by one are a list that may stand behind others.
use Rattle.std.proofs.Common.{◌≡◌, ℕ, ◌<◌, ◌≤◌, true, false, List, [], ◌∷◌, ◌++◌, length, sym, ap, subst, ◌∙◌}
use Rattle.std.proofs.Common.{append_assoc, append-nil, arith, inl, inr}
use Rattle.std.specs.Prelude.{nat_lt, nat_le, ◌||◌, ◌&&◌, not}
use Rattle.std.specs.List.{AllByRecursion}
use Rattle.std.proofs.lemmas.Bool.{cases_lt, lt-ltb, leb-true, le-leb, and_parts, and_from, not-true, not_from_false}
use Rattle.std.proofs.lemmas.Bool.{or_left, or_right}
use Rattle.std.proofs.lemmas.List.{length-append}
use Rattle.cla_packed.specs.Fields.{EachIs}
use Rattle.cla_packed.specs.Lists.{next_from, RisingFrom, named, first_of, floor_of, IsList}
use Rattle.cla_packed.specs.Offsets.{fits_row, joined}
use Rattle.cla_packed_laws.proofs.Lists.{next_push}

-- what each thing must be, whatever is left behind it
abbrev pub EachHere : {A : Type 0} → (List A → A → Type 0) → List A → List A → Type 0
EachHere good so_far items = EachIs (λ left before a. good before a) so_far items

pub all_here : {A : Type 0} (P : A → Type 0) (so_far items : List A) → EachHere (λ before a. P a) so_far items
    → AllByRecursion P items
all_here P so_far [] h = tt
all_here P so_far (a ∷ items) h = (h.0, all_here P (so_far ++ a ∷ []) items h.1)

pub each_both : {A : Type 0} (P Q : ℕ → List A → A → Type 0) (so_far items : List A) → EachIs P so_far items
    → EachIs Q so_far items → EachIs (λ left before a. P left before a × Q left before a) so_far items
each_both P Q so_far [] h g = tt
each_both P Q so_far (a ∷ items) h g = ((h.0, g.0), each_both P Q (so_far ++ a ∷ []) items h.1 g.1)

-- ---- the rows of a list

pub rise_from : (so_far list : List ℕ) → EachHere (λ before i. next_from 0 before ≤ i) so_far list
    → RisingFrom (next_from 0 so_far) list
rise_from so_far [] h = tt
rise_from so_far (i ∷ list) h =
    (h.0, subst (λ (a : ℕ). RisingFrom a list) (next_push 0 i so_far) (rise_from (so_far ++ i ∷ []) list h.1))

pub row_parts : (earlier : List (List ℕ)) (so_far : List ℕ) (i : ℕ) → fits_row earlier so_far i ≡ true
    → (next_from 0 so_far ≤ i) × (named earlier i ≡ false)
    × ((nat_lt 0 (length so_far) || nat_le (floor_of earlier) i) ≡ true)
row_parts earlier so_far i h =
    let a = and_parts (nat_le (next_from 0 so_far) i && not (named earlier i)) (nat_lt 0 (length so_far)
    || nat_le (floor_of earlier) i) h in
    let b = and_parts (nat_le (next_from 0 so_far) i) (not (named earlier i)) a.0 in
    (leb-true (next_from 0 so_far) i b.0, not-true (named earlier i) b.1, a.1)

first_row : (earlier : List (List ℕ)) (list : List ℕ) → 0 < length list
    → EachHere (λ before i. fits_row earlier before i ≡ true) [] list → floor_of earlier ≤ first_of list
first_row earlier [] some h = absurd (omega (arith, some))
first_row earlier (i ∷ list) some h = leb-true (floor_of earlier) i (row_parts earlier [] i h.0).2

go_up : (earlier : List (List ℕ)) (so_far list : List ℕ) → EachHere (λ before i. fits_row earlier before i
    ≡ true) so_far list → EachHere (λ before i. next_from 0 before ≤ i) so_far list
go_up earlier so_far [] h = tt
go_up earlier so_far (i ∷ list) h = ((row_parts earlier so_far i h.0).0, go_up earlier (so_far ++ i ∷ []) list h.1)

go_apart : (earlier : List (List ℕ)) (so_far list : List ℕ) → EachHere (λ before i. fits_row earlier before i
    ≡ true) so_far list → AllByRecursion (λ i. named earlier i ≡ false) list
go_apart earlier so_far [] h = tt
go_apart earlier so_far (i ∷ list) h = (
  (row_parts earlier so_far i h.0).1,
  go_apart earlier (so_far ++ i ∷ []) list h.1,
)

pub list_from : (rows : ℕ) (earlier : List (List ℕ)) (list : List ℕ) → 0 < length list → next_from 0 list ≤ rows
    → EachHere (λ before i. fits_row earlier before i ≡ true) [] list → IsList rows earlier list
list_from rows earlier list some within h = record {
  some = some;
  rising = rise_from [] list (go_up earlier [] list h);
  within = within;
  apart = go_apart earlier [] list h;
  first = first_row earlier list some h;
}

pub rows_fit : (earlier : List (List ℕ)) (so_far list : List ℕ) → RisingFrom (next_from 0 so_far) list
    → AllByRecursion (λ i. named earlier i ≡ false) list → (length so_far ≡ 0 → 0 < length list
    → floor_of earlier ≤ first_of list)
    → EachHere (λ before i. fits_row earlier before i ≡ true) so_far list
rows_fit earlier so_far [] rise apart first = tt
rows_fit earlier so_far (i ∷ list) rise apart first = (
  and_from (nat_le (next_from 0 so_far) i && not (named earlier i)) (nat_lt 0 (length so_far)
      || nat_le (floor_of earlier) i)
      (and_from (nat_le (next_from 0 so_far) i) (not (named earlier i)) (le-leb (next_from 0 so_far) i rise.0)
      (not_from_false (named earlier i) apart.0))
      (elim (cases_lt 0 (length so_far)) [
        | inl later ↦ or_left (nat_lt 0 (length so_far)) (nat_le (floor_of earlier) i)
            (lt-ltb 0 (length so_far) later)
        | inr none ↦ or_right (nat_lt 0 (length so_far)) (nat_le (floor_of earlier) i)
            (le-leb (floor_of earlier) i (first (omega (arith, none)) (omega arith)))
      ]),
  rows_fit earlier (so_far ++ i ∷ []) list (subst (λ (a : ℕ). RisingFrom a list)
      (sym (next_push 0 i so_far)) rise.1) apart.1 (λ none some.
      absurd (omega (arith, none, length-append so_far (i ∷ [])))),
)

pub rows_fit_list : (rows : ℕ) (earlier : List (List ℕ)) (list : List ℕ) → IsList rows earlier list
    → EachHere (λ before i. fits_row earlier before i ≡ true) [] list
rows_fit_list rows earlier list h = rows_fit earlier [] list h.rising h.apart (λ none some. h.first)

-- ---- lists joined

pub joined-append : (before : List (List ℕ)) (segment : List ℕ) → joined (before ++ segment ∷ []) ≡ joined before
    ++ segment
joined-append [] segment = append-nil segment
joined-append (list ∷ before) segment = ap (λ (l : List ℕ). list ++ l) (joined-append before segment)
    ∙ sym (append_assoc list (joined before) segment)

module _ (Q : List ℕ → ℕ → Type 0) where
  shift : (pre so_far items : List ℕ) → EachHere (λ before i. Q (pre ++ before) i) so_far items
      → EachHere Q (pre ++ so_far) items
  shift pre so_far [] h = tt
  shift pre so_far (i ∷ items) h = (
    h.0,
    subst (λ (l : List ℕ). EachHere Q l items) (sym (append_assoc pre so_far (i ∷ [])))
        (shift pre (so_far ++ i ∷ []) items h.1),
  )

  unshift : (pre so_far items : List ℕ) → EachHere Q (pre ++ so_far) items
      → EachHere (λ before i. Q (pre ++ before) i) so_far items
  unshift pre so_far [] h = tt
  unshift pre so_far (i ∷ items) h = (
    h.0,
    unshift pre (so_far ++ i ∷ []) items (subst (λ (l : List ℕ). EachHere Q l items)
        (append_assoc pre so_far (i ∷ [])) h.1),
  )

  append_each : (so_far xs ys : List ℕ) → EachHere Q so_far xs → EachHere Q (so_far ++ xs) ys
      → EachHere Q so_far (xs ++ ys)
  append_each so_far [] ys h g = subst (λ (l : List ℕ). EachHere Q l ys) (append-nil so_far) g
  append_each so_far (i ∷ xs) ys h g = (
    h.0,
    append_each (so_far ++ i ∷ []) xs ys h.1 (subst (λ (l : List ℕ). EachHere Q l ys)
        (sym (append_assoc so_far (i ∷ []) xs)) g),
  )

  parts_each : (so_far xs ys : List ℕ) → EachHere Q so_far (xs ++ ys) → EachHere Q so_far xs
      × EachHere Q (so_far ++ xs) ys
  parts_each so_far [] ys h = (tt, subst (λ (l : List ℕ). EachHere Q l ys) (sym (append-nil so_far)) h)
  parts_each so_far (i ∷ xs) ys h =
      let more = parts_each (so_far ++ i ∷ []) xs ys h.1 in
      ((h.0, more.0), subst (λ (l : List ℕ). EachHere Q l ys) (append_assoc so_far (i ∷ []) xs) more.1)

  pub join_each : (before segments : List (List ℕ))
      → EachHere (λ before segment. EachHere (λ so_far i. Q (joined before ++ so_far) i) [] segment) before segments
      → EachHere Q (joined before) (joined segments)
  join_each before [] h = tt
  join_each before (segment ∷ segments) h =
      append_each (joined before) segment (joined segments)
      (subst (λ (l : List ℕ). EachHere Q l segment) (append-nil (joined before))
      (shift (joined before) [] segment h.0))
      (subst (λ (l : List ℕ). EachHere Q l (joined segments)) (joined-append before segment)
      (join_each (before ++ segment ∷ []) segments h.1))

  pub part_each : (before segments : List (List ℕ)) → EachHere Q (joined before) (joined segments)
      → EachHere (λ before segment. EachHere (λ so_far i. Q (joined before ++ so_far) i) [] segment) before segments
  part_each before [] h = tt
  part_each before (segment ∷ segments) h =
      let p = parts_each (joined before) segment (joined segments) h in (
        unshift (joined before) [] segment (subst (λ (l : List ℕ). EachHere Q l segment)
            (sym (append-nil (joined before))) p.0),
        part_each (before ++ segment ∷ []) segments (subst (λ (l : List ℕ). EachHere Q l (joined segments))
            (sym (joined-append before segment)) p.1),
      )
