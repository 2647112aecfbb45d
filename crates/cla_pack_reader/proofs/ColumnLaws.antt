-- The columns of a group, by marks.
use Rattle.std.proofs.Common.{◌≡◌, ℕ, zero, suc, ◌+◌, ◌-◌, ◌<◌, ◌≤◌, Bool, true, false, cond, eqb, List, [], ◌∷◌}
use Rattle.std.proofs.Common.{◌++◌, length, refl, sym, ap, ◌∙◌, arith, inl, inr}
use Rattle.std.specs.Prelude.{nat_lt, nat_le, ◌&&◌, not}
use Rattle.std.specs.List.{list_all, range_with_len}
use Rattle.std.proofs.lemmas.Bool.{cases_lt, lt-ltb, le-ltb, lt-leb, le-leb, eq-eqb, ne_eqb, and_left, and_right}
use Rattle.std.proofs.lemmas.Bool.{not_from_true, false≢true, false_from_ne_true}
use Rattle.cla_layout.specs.Groups.{code_of}
use Rattle.cla_packed.specs.Codes.{has}
use Rattle.cla_packed.specs.Files.{fits_width, fits_column}
use Rattle.cla_packed.specs.Lists.{next_from}
use Rattle.cla_packed_laws.proofs.Columns.{all_range, range_all}
use Rattle.cla_pack_reader.specs.Marks.{IsLeast, IsNext}
use Rattle.cla_pack_reader.specs.Ranges.{within}
use Rattle.cla_pack_reader.proofs.OwnerLaws.{next_push}

-- ---- widths

last_width : (cols taken w : ℕ) → taken < cols
    → within (cols - taken - 0) (cols - taken - 0) w
    ≡ (nat_le 1 w && nat_le (w + taken + 0) cols && eqb (w + taken) cols)
last_width cols taken w room = elim (cases_lt w (cols - taken - 0)) [
  | inl less ↦ rw (lt-leb (cols - taken - 0) w less, ne_eqb (w + taken) cols (λ e. omega (arith, e, less, room)))
      (sym (and_right (nat_le 1 w && nat_le (w + taken + 0) cols) false refl))
  | inr ge ↦ elim (cases_lt (cols - taken - 0) w) [
    | inl more ↦ rw (
      le-leb (cols - taken - 0) w ge,
      lt-leb w (cols - taken - 0) more,
      ne_eqb (w + taken) cols (λ e.
          omega (arith, e, more, room)),
    ) (sym (and_right (nat_le 1 w && nat_le (w + taken + 0) cols) false refl))
    | inr le ↦ rw (
      le-leb (cols - taken - 0) w ge,
      le-leb w (cols - taken - 0) le,
      le-leb 1 w (omega (arith, ge, room)),
      le-leb (w + taken + 0) cols (omega (arith, le, room)),
      eq-eqb (w + taken) cols (omega (arith, ge, le, room)),
    ) refl
  ]
]

some_width : (cols taken left w : ℕ) → taken + left < cols
    → within 1 (cols - taken - left) w ≡ (nat_le 1 w && nat_le (w + taken + left) cols)
some_width cols taken left w room = ap (λ (b : Bool). nat_le 1 w && b) (elim (cases_lt (cols - taken - left) w) [
  | inl more ↦ lt-leb w (cols - taken - left) more
      ∙ sym (lt-leb (w + taken + left) cols (omega (arith, more, room)))
  | inr le ↦ le-leb w (cols - taken - left) le ∙ sym (le-leb (w + taken + left) cols (omega (arith, le, room)))
])

and_true : (b : Bool) → b ≡ (b && true)
and_true true = refl
and_true false = refl

-- the two bounds of a width
pub width_test : (cols left : ℕ) (taken : List ℕ) (w : ℕ) → length taken + left < cols
    → within (cond (eqb left 0) (cols - length taken - left) 1) (cols - length taken - left) w
    ≡ fits_width cols taken left w
width_test cols left taken w room = elim (cases_lt 0 left) [
  | inl more ↦ rw (ne_eqb left 0 (λ e. omega (arith, e, more)), lt-ltb 0 left more)
      (some_width cols (length taken) left w room
      ∙ and_true (nat_le 1 w && nat_le (w + length taken + left) cols))
  | inr none ↦
      let is : left ≡ 0 = omega (arith, none) in
      rw is (last_width cols (length taken) w (omega (arith, room)))
]

pub width_bounds : (cols count left least : ℕ) (taken : List ℕ) → length taken ≡ count
    → least ≡ cond (eqb left 0) (cols - count - left) 1 → count + left < cols → (w : ℕ)
    → within least (cols - count - left) w ≡ fits_width cols taken left w
width_bounds cols count left least taken is least_is room w =
    ap (λ (n : ℕ). within n (cols - count - left) w) least_is
    ∙ ap (λ (n : ℕ). within (cond (eqb left 0) (cols - n - left) 1) (cols - n - left) w) (sym is)
    ∙ width_test cols left taken w (omega (arith, room, is))

-- ---- columns

module _ (cols : ℕ) (taken so_far : List ℕ) (c : ℕ) where
  below : Bool
  below = nat_lt c cols

  new : Bool
  new = not (has taken c)

  rest : Bool
  rest = cond (eqb (length so_far) 0) (list_all (has taken) (range_with_len 0 c)) (nat_le (next_from 0 so_far) c)

  pub column_over : cols ≤ c → fits_column cols taken so_far c ≡ false
  unfolding below new rest
  column_over le = and_left (below && new) rest (and_left below new (le-ltb c cols le))

  pub column_taken : has taken c ≡ true → fits_column cols taken so_far c ≡ false
  unfolding below new rest
  column_taken old = and_left (below && new) rest (and_right below new (not_from_true (has taken c) old))

  inside : c < cols → has taken c ≡ false → fits_column cols taken so_far c ≡ rest
  unfolding below new rest
  inside lt none = rw (lt-ltb c cols lt, none) refl

pub column_later : (cols : ℕ) (taken so_far : List ℕ) (c next : ℕ) → c < cols → has taken c ≡ false
    → 0 < length so_far → IsNext taken so_far next → nat_le next c ≡ fits_column cols taken so_far c
unfolding rest
column_later cols taken [] c next lt none some is = absurd (omega (arith, some))
column_later cols taken (x ∷ so_far) c next lt none some is =
    ap (λ (n : ℕ). nat_le n c) is ∙ sym (inside cols taken (x ∷ so_far) c lt none
    ∙ rw (ne_eqb (length (x ∷ so_far)) 0 (λ e. omega (arith, e, some))) refl)

first_test : (taken : List ℕ) (c next : ℕ) → has taken c ≡ false → IsLeast taken next
    → eqb next c ≡ list_all (has taken) (range_with_len 0 c)
first_test taken c next none least = elim (cases_lt c next) [
  | inl less ↦ absurd (false≢true (sym none ∙ least.0 c less))
  | inr ge ↦ elim (cases_lt next c) [
    | inl more ↦ ne_eqb next c (λ e. omega (arith, e, more))
        ∙ sym (false_from_ne_true (list_all (has taken) (range_with_len 0 c)) (λ all.
        false≢true (sym least.1 ∙ all_range (has taken) 0 c next all (omega arith) (omega (arith, more)))))
    | inr le ↦
        let same : next ≡ c = omega (arith, ge, le) in
        eq-eqb next c same ∙ sym (range_all (has taken) 0 c (λ j a lt. least.0 j (omega (arith, lt, same))))
  ]
]

pub column_first : (cols : ℕ) (taken so_far : List ℕ) (c next : ℕ) → c < cols → has taken c ≡ false
    → length so_far ≡ 0 → IsNext taken so_far next → eqb next c ≡ fits_column cols taken so_far c
unfolding rest
column_first cols taken (x ∷ so_far) c next lt none empty is = absurd (omega (arith, empty))
column_first cols taken [] c next lt none empty is =
    first_test taken c next none is ∙ sym (inside cols taken [] c lt none)

pub next_is : (taken so_far : List ℕ) (c : ℕ) → IsNext taken (so_far ++ c ∷ []) (c + 1)
next_is taken [] c = refl
next_is taken (x ∷ so_far) c = sym (next_push (x + 1) c so_far)

-- each of the columns is below a bound
pub below_push : (so_far : List ℕ) (c cols : ℕ) → ((k : ℕ) → k < length so_far → code_of so_far k < cols) → c < cols
    → (k : ℕ) → k < length (so_far ++ c ∷ []) → code_of (so_far ++ c ∷ []) k < cols
below_push [] c cols h lt zero there = lt
below_push [] c cols h lt (suc k) there = absurd (omega (arith, there))
below_push (x ∷ so_far) c cols h lt zero there = h 0 (omega arith)
below_push (x ∷ so_far) c cols h lt (suc k) there =
    below_push so_far c cols (λ i fits. h (suc i) (omega (arith, fits))) lt k (omega (arith, there))
