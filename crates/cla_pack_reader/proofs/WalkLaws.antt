-- What marks say of the rows that were read.
use Rattle.std.proofs.Common.{◌≡◌, ℕ, zero, suc, ◌+◌, ◌<◌, ◌≤◌, Bool, true, false, cond, eqb, List, [], ◌∷◌, ◌++◌}
use Rattle.std.proofs.Common.{length, get_or, set, replicate, map, refl, sym, ap, ◌∙◌, arith, inl, inr}
use Rattle.std.specs.Prelude.{nat_lt, nat_le, ◌||◌, ◌&&◌, not}
use Rattle.std.specs.List.{range_with_len}
use Rattle.std.proofs.lemmas.Bool.{cases_order, cases_Bool, cases_lt, lt-ltb, le-ltb, ltb-true, le-leb, lt-leb}
use Rattle.std.proofs.lemmas.Bool.{leb-true, eq-eqb, ne_eqb, and_left, and_right, and_from, and_parts, or_left}
use Rattle.std.proofs.lemmas.Bool.{or_right, or_cases, not_from_true, not_from_false, false≢true}
use Rattle.std.proofs.lemmas.List.{map-append, length-append, length-replicate, ext_get_or, get_or-set_same}
use Rattle.std.proofs.lemmas.List.{get_or-set_other, get_or-replicate}
use Rattle.std.proofs.lemmas.List.Folds.{list_any-append}
use Rattle.std.proofs.lemmas.List.FromFn.{length-range_with_len, length-map-range_with_len}
use Rattle.cla_packed.specs.Codes.{has}
use Rattle.cla_packed.specs.Lists.{next_from, named, first_of, floor_of}
use Rattle.cla_packed.specs.Offsets.{fits_row}
use Rattle.cla_pack_reader.proofs.OwnerLaws.{in_map, next_push, or_false}
use Rattle.cla_pack_reader.specs.declared.walk.Walk.{Walk}
use Rattle.cla_pack_reader.specs.Walks.{IsState, at_start, past}

-- ---- rows one behind the other

abbrev pub in_range : ℕ → ℕ → ℕ → Bool
in_range a b i = nat_le a i && nat_lt i b

pub inside : (a b i : ℕ) → a ≤ i → i < b → in_range a b i ≡ true
inside a b i ge lt = and_from (nat_le a i) (nat_lt i b) (le-leb a i ge) (lt-ltb i b lt)

pub left_of : (a b i : ℕ) → i < a → in_range a b i ≡ false
left_of a b i lt = and_left (nat_le a i) (nat_lt i b) (lt-leb a i lt)

pub right_of : (a b i : ℕ) → b ≤ i → in_range a b i ≡ false
right_of a b i ge = and_right (nat_le a i) (nat_lt i b) (le-ltb i b ge)

pub range_parts : (a b i : ℕ) → in_range a b i ≡ true → (a ≤ i) × (i < b)
range_parts a b i h =
    let p = and_parts (nat_le a i) (nat_lt i b) h in
    (leb-true a i p.0, ltb-true i b p.1)

pub has_range : (a n i : ℕ) → has (range_with_len a n) i ≡ in_range a (a + n) i
has_range a zero i = sym (elim (cases_lt i a) [
  | inl lt ↦ left_of a (a + 0) i lt
  | inr ge ↦ right_of a (a + 0) i (omega (arith, ge))
])
has_range a (suc n) i = elim (cases_order a i) [
  | inl here ↦ or_left (eqb a i) (has (range_with_len (a + 1) n) i) (eq-eqb a i here)
      ∙ sym (inside a (a + suc n) i (omega (arith, here)) (omega (arith, here)))
  | inr other ↦ elim other [
    | inl above ↦
        let end : a + 1 + n ≡ a + suc n = omega arith in
        ap (λ (b : Bool). b || has (range_with_len (a + 1) n) i) (ne_eqb a i (λ e. omega (arith, e, above)))
        ∙ has_range (a + 1) n i
        ∙ ap (λ (b : Bool). b && nat_lt i (a + 1 + n)) (le-leb (a + 1) i (omega (arith, above))
        ∙ sym (le-leb a i (omega (arith, above))))
        ∙ ap (λ (b : ℕ). nat_le a i && nat_lt i b) end
    | inr below ↦
        ap (λ (b : Bool). b || has (range_with_len (a + 1) n) i) (ne_eqb a i (λ e. omega (arith, e, below)))
        ∙ has_range (a + 1) n i ∙ left_of (a + 1) (a + 1 + n) i (omega (arith, below))
        ∙ sym (left_of a (a + suc n) i below)
  ]
]

pub next_append : (a : ℕ) (xs ys : List ℕ) → next_from a (xs ++ ys) ≡ next_from (next_from a xs) ys
next_append a [] ys = refl
next_append a (i ∷ xs) ys = next_append (i + 1) xs ys

next_range : (a b n : ℕ) → next_from a (range_with_len b (suc n)) ≡ b + suc n
next_range a b zero = refl
next_range a b (suc n) =
    let same : b + 1 + suc n ≡ b + suc (suc n) = omega arith in
    next_range (b + 1) (b + 1) n ∙ same

pub next_rows : (a b n : ℕ) → 0 < n → next_from a (range_with_len b n) ≡ b + n
next_rows a b zero h = absurd (omega (arith, h))
next_rows a b (suc n) h = next_range a b n

first_rows : (b n : ℕ) → 0 < n → first_of (range_with_len b n) ≡ b
first_rows b zero h = absurd (omega (arith, h))
first_rows b (suc n) h = refl

first_behind : (so_far rows : List ℕ) → 0 < length so_far → first_of (so_far ++ rows) ≡ first_of so_far
first_behind [] rows h = absurd (omega (arith, h))
first_behind (i ∷ so_far) rows h = refl

first_alone : (so_far rows : List ℕ) → length so_far ≡ 0 → first_of (so_far ++ rows) ≡ first_of rows
first_alone [] rows h = refl
first_alone (i ∷ so_far) rows h = absurd (omega (arith, h))

pub has_some : (list : List ℕ) (i : ℕ) → has list i ≡ true → 0 < length list
has_some [] i h = absurd (false≢true h)
has_some (j ∷ list) i h = omega arith

-- a mark more
pub mark_put : (marks : List Bool) (row i : ℕ) → i < length marks
    → get_or (set marks row true) i false ≡ (get_or marks i false || in_range row (row + 1) i)
mark_put marks row i lt = elim (cases_order row i) [
  | inl here ↦
      let same : i ≡ row = sym here in
      ap (λ (j : ℕ). get_or (set marks row true) j false) same
      ∙ get_or-set_same marks row true false (omega (arith, lt, here))
      ∙ sym (or_right (get_or marks i false) (in_range row (row + 1) i)
      (inside row (row + 1) i (omega (arith, here)) (omega (arith, here))))
  | inr other ↦ elim other [
    | inl above ↦ get_or-set_other marks row i true false (λ e. omega (arith, e, above))
        ∙ sym (ap (λ (b : Bool). get_or marks i false || b) (right_of row (row + 1) i (omega (arith, above)))
        ∙ or_false (get_or marks i false))
    | inr below ↦ get_or-set_other marks row i true false (λ e. omega (arith, e, below))
        ∙ sym (ap (λ (b : Bool). get_or marks i false || b) (left_of row (row + 1) i below)
        ∙ or_false (get_or marks i false))
  ]
]

or_assoc : (x y z : Bool) → ((x || y) || z) ≡ (x || (y || z))
or_assoc true y z = refl
or_assoc false y z = refl

module _ (earlier : List (List ℕ)) (so_far : List ℕ) (marks : List Bool) (walk : Walk) (floor : ℕ)
    (s : IsState earlier so_far marks walk floor) where
  -- from the next row on, the rows of earlier tuples alone have marks
  pub none_from : (i : ℕ) → walk.next ≤ i → has so_far i ≡ false
  none_from i ge = elim (cases_Bool (has so_far i)) [
    | inl mine ↦ absurd (omega (arith, ge, s.below i mine))
    | inr none ↦ none
  ]

  pub named_from : (i : ℕ) → walk.next ≤ i → i < length marks → get_or marks i false ≡ named earlier i
  named_from i ge lt = s.each i lt ∙ ap (λ (b : Bool). named earlier i || b) (none_from i ge)
      ∙ or_false (named earlier i)

  pub below_next : (row : ℕ) → row < walk.next → fits_row earlier so_far row ≡ false
  below_next row lt =
      let one : nat_le (next_from 0 so_far) row ≡ false = lt-leb (next_from 0 so_far) row (omega (arith, lt, s.next)) in
      and_left (nat_le (next_from 0 so_far) row && not (named earlier row))
      (nat_lt 0 (length so_far) || nat_le (floor_of earlier) row)
      (and_left (nat_le (next_from 0 so_far) row) (not (named earlier row)) one)

  pub is_named : (row : ℕ) → row < length marks → walk.next ≤ row → get_or marks row false ≡ true
      → fits_row earlier so_far row ≡ false
  is_named row lt ge old =
      let there : named earlier row ≡ true = sym (named_from row ge lt) ∙ old in
      and_left (nat_le (next_from 0 so_far) row && not (named earlier row))
      (nat_lt 0 (length so_far) || nat_le (floor_of earlier) row)
      (and_right (nat_le (next_from 0 so_far) row) (not (named earlier row))
      (not_from_true (named earlier row) there))

  pub last_test : (row : ℕ) → row < length marks → walk.next ≤ row → get_or marks row false ≡ false
      → fits_row earlier so_far row ≡ (walk.started || nat_le floor row)
  last_test row lt ge new =
      let none : named earlier row ≡ false = sym (named_from row ge lt) ∙ new in
      let one : (nat_le (next_from 0 so_far) row && not (named earlier row)) ≡ true =
      and_from (nat_le (next_from 0 so_far) row) (not (named earlier row))
      (le-leb (next_from 0 so_far) row (omega (arith, ge, s.next))) (not_from_false (named earlier row) none) in
      λ i. (one i && (sym s.started i || nat_le (sym s.floor_is i) row))

  -- rows one behind the other get marks
  pub state_pushed : (begin n : ℕ) (marks' : List Bool) → 0 < n → walk.next ≤ begin → length marks' ≡ length marks
      → ((i : ℕ) → i < length marks
      → get_or marks' i false ≡ (get_or marks i false || in_range begin (begin + n) i))
      → IsState earlier (so_far ++ range_with_len begin n) marks' (past walk begin (begin + n)) floor
  state_pushed begin n marks' some ge size put =
      let rows = range_with_len begin n in
      let all = so_far ++ rows in
      let both = λ (i : ℕ). list_any-append (λ m. eqb m i) so_far rows in
      let count : length all ≡ length so_far + n = length-append so_far rows
      ∙ ap (λ (m : ℕ). length so_far + m) (length-range_with_len begin n) in
      record {
        each = λ i lt.
            let there : i < length marks = omega (arith, lt, size) in
            put i there ∙ ap (λ (b : Bool). b || in_range begin (begin + n) i) (s.each i there)
            ∙ or_assoc (named earlier i) (has so_far i) (in_range begin (begin + n) i)
            ∙ ap (λ (b : Bool). named earlier i || (has so_far i || b)) (sym (has_range begin n i))
            ∙ ap (λ (b : Bool). named earlier i || b) (sym (both i));
        below = λ i h. elim (or_cases (has so_far i) (has rows i) (sym (both i) ∙ h)) [
          | inl old ↦ omega (arith, s.below i old, ge)
          | inr new ↦ (range_parts begin (begin + n) i (sym (has_range begin n i) ∙ new)).1
        ];
        started = sym (lt-ltb 0 (length all) (omega (arith, count, some)));
        first = elim (cases_lt 0 (length so_far)) [
          | inl old ↦ ap (λ (b : Bool). cond b walk.first begin) (s.started ∙ lt-ltb 0 (length so_far) old) ∙ s.first
              ∙ sym (first_behind so_far rows old)
          | inr none ↦ ap (λ (b : Bool). cond b walk.first begin) (s.started ∙ le-ltb 0 (length so_far) none)
              ∙ sym (first_alone so_far rows (omega (arith, none)) ∙ first_rows begin n some)
        ];
        next = sym (next_append 0 so_far rows ∙ next_rows (next_from 0 so_far) begin n some);
        floor_is = s.floor_is;
      }

  -- a tuple's rows become its list
  pub list_pushed : IsState (earlier ++ so_far ∷ []) [] marks at_start (walk.first + 1)
  list_pushed = record {
    each = λ i lt. s.each i lt ∙ ap (λ (b : Bool). named earlier i || b) (sym (or_false (has so_far i)))
        ∙ sym (list_any-append (λ list. has list i) earlier (so_far ∷ []))
        ∙ sym (or_false (named (earlier ++ so_far ∷ []) i));
    below = λ i h. absurd (false≢true h);
    started = sym (le-ltb 0 0 (omega arith));
    first = refl;
    next = refl;
    floor_is = ap (λ (n : ℕ). n + 1) s.first ∙ sym (ap (next_from 0) (map-append first_of earlier (so_far ∷ []))
        ∙ next_push 0 (first_of so_far) (map first_of earlier));
  }

-- ---- all lists

pub no_lists : (rows : ℕ) → IsState [] [] (replicate rows false) at_start 0
no_lists rows = record {
  each = λ i lt. get_or-replicate rows i false false (omega (arith, lt, length-replicate rows false));
  below = λ i h. absurd (false≢true h);
  started = sym (le-ltb 0 0 (omega arith));
  first = refl;
  next = refl;
  floor_is = refl;
}

pub all_named : (rows : ℕ) (lists : List (List ℕ)) (marks : List Bool) (floor : ℕ) → length marks ≡ rows
    → IsState lists [] marks at_start floor → marks ≡ map (named lists) (range_with_len 0 rows)
all_named rows lists marks floor count s =
    ext_get_or false marks (map (named lists) (range_with_len 0 rows))
    (count ∙ sym (length-map-range_with_len (named lists) 0 rows)) (λ i lt.
    s.each i lt ∙ or_false (named lists i) ∙ sym (in_map (named lists) rows i false (omega (arith, lt, count))))
