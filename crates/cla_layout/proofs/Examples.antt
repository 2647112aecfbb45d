-- Worked examples of the definitions: rows (1, 7, 2), (0, 7, 0), (0, 0, 0) and (1, 0, 2) in two parts.
use Rattle.std.proofs.Common.{◌≡◌, ℕ, pos, zero, suc, ◌<◌, [], ◌∷◌, length, slice_index_or, refl, true, arith}
use Rattle.cla_spec.specs.Numbers.{InRange}
use Rattle.cla_layout.specs.declared.kind.Kind.TheVariants.{Codes, Runs}
use Rattle.cla_layout.specs.Groups.{code_of, value_of, occurrences_of, IsGroup}
use Rattle.cla_layout.specs.Groups.{AreNumbered}
use Rattle.cla_layout.specs.Layouts.{LayoutPart, Layout, part_at, matrix_in, matrix_as, column_at}
use Rattle.cla_layout.specs.Canonical.{AreDistinct, HasKind, IsCanonical, kind_at}
use Rattle.cla_layout.proofs.TwoParts.{two_whole}

abbrev outer : LayoutPart
outer = record {
  columns = 0 ∷ 2 ∷ [];
  codes = 0 ∷ 1 ∷ 1 ∷ 0 ∷ [];
  tuples = (pos 1 ∷ pos 2 ∷ []) ∷ (pos 0 ∷ pos 0 ∷ [])
      ∷ [];
}

abbrev inner : LayoutPart
inner = record { columns = 1 ∷ []; codes = 0 ∷ 0 ∷ 1 ∷ 1 ∷ []; tuples = (pos 7 ∷ []) ∷ (pos 0 ∷ []) ∷ [] }

abbrev both : Layout
both = record { rows = 4; cols = 3; parts = outer ∷ inner ∷ [] }

pub cells_are : (matrix_in both).cells ≡ pos 1 ∷ pos 7 ∷ pos 2 ∷ pos 0 ∷ pos 7 ∷ pos 0 ∷ pos 0 ∷ pos 0 ∷ pos 0 ∷ pos 1
    ∷ pos 0 ∷ pos 2 ∷
    []
cells_are = refl

pub transposed_cells_are : (matrix_as true both).cells
    ≡ pos 1 ∷ pos 0 ∷ pos 0 ∷ pos 1 ∷ pos 7 ∷ pos 7 ∷ pos 0 ∷ pos 0 ∷ pos 2 ∷ pos 0 ∷ pos 0 ∷ pos 2 ∷ []
transposed_cells_are = refl

-- four rows of two tuples
four_codes : (a b c d : ℕ) → a < 2 → b < 2 → c < 2 → d < 2 → (i : ℕ) → i < 4 → code_of (a ∷ b ∷ c ∷ d ∷ []) i < 2
four_codes a b c d first second third fourth zero there = first
four_codes a b c d first second third fourth (suc zero) there = second
four_codes a b c d first second third fourth (suc (suc zero)) there = third
four_codes a b c d first second third fourth (suc (suc (suc zero))) there = fourth
four_codes a b c d first second third fourth (suc (suc (suc (suc i)))) there = absurd (omega (arith, there))

of_two : (P : ℕ → Type 0) → P 0 → P 1 → (k : ℕ) → k < 2 → P k
of_two P first second zero there = first
of_two P first second (suc zero) there = second
of_two P first second (suc (suc k)) there = absurd (omega (arith, there))

of_one : (P : ℕ → Type 0) → P 0 → (k : ℕ) → k < 1 → P k
of_one P first zero there = first
of_one P first (suc k) there = absurd (omega (arith, there))

outer_is_group : IsGroup 3 2 outer.codes outer.tuples
outer_is_group = record {
  a_row = omega arith;
  a_column = omega arith;
  few_cells = omega arith;
  in_tuples = four_codes 0 1 1 0 (omega arith) (omega arith) (omega arith) (omega arith);
  used = of_two (λ k. 0 < occurrences_of outer.codes k) (omega arith) (omega arith);
  full = of_two (λ k. length (slice_index_or outer.tuples k []) ≡ 2) refl refl;
  small = λ k c tuple place. of_two (λ k. InRange 3 (value_of outer.tuples k c))
      (of_two (λ c. InRange 3 (value_of outer.tuples 0 c)) (omega arith) (omega arith) c place)
      (of_two (λ c. InRange 3 (value_of outer.tuples 1 c)) (omega arith) (omega arith) c place) k tuple;
}

inner_is_group : IsGroup 3 1 inner.codes inner.tuples
inner_is_group = record {
  a_row = omega arith;
  a_column = omega arith;
  few_cells = omega arith;
  in_tuples = four_codes 0 0 1 1 (omega arith) (omega arith) (omega arith) (omega arith);
  used = of_two (λ k. 0 < occurrences_of inner.codes k) (omega arith) (omega arith);
  full = of_two (λ k. length (slice_index_or inner.tuples k []) ≡ 1) refl refl;
  small = λ k c tuple place. of_two (λ k. InRange 3 (value_of inner.tuples k c))
      (of_one (λ c. InRange 3 (value_of inner.tuples 0 c)) (omega arith) c place)
      (of_one (λ c. InRange 3 (value_of inner.tuples 1 c)) (omega arith) c place) k tuple;
}

numbered : (q : ℕ) → q < 2 → AreNumbered (part_at both.parts q).codes (length (part_at both.parts q).tuples)
numbered zero there zero before = omega arith
numbered zero there (suc k) before = absurd (omega (arith, before))
numbered (suc zero) there zero before = omega arith
numbered (suc zero) there (suc k) before = absurd (omega (arith, before))
numbered (suc (suc q)) there k before = absurd (omega (arith, there))

in_order : (q r : ℕ) → q < r → r < 2 → column_at (part_at both.parts q).columns 0
    < column_at (part_at both.parts r).columns 0
in_order zero (suc zero) before there = omega arith
in_order q zero before there = absurd (omega (arith, before))
in_order (suc q) (suc zero) before there = absurd (omega (arith, before))
in_order q (suc (suc r)) before there = absurd (omega (arith, there))

outer_are_distinct : AreDistinct outer.tuples
outer_are_distinct zero zero k_there l_there same = refl
outer_are_distinct zero (suc zero) k_there l_there same = absurd (cc same)
outer_are_distinct (suc zero) zero k_there l_there same = absurd (cc same)
outer_are_distinct (suc zero) (suc zero) k_there l_there same = refl
outer_are_distinct (suc (suc k)) l k_there l_there same = absurd (omega (arith, k_there))
outer_are_distinct k (suc (suc l)) k_there l_there same = absurd (omega (arith, l_there))

inner_are_distinct : AreDistinct inner.tuples
inner_are_distinct zero zero k_there l_there same = refl
inner_are_distinct zero (suc zero) k_there l_there same = absurd (cc same)
inner_are_distinct (suc zero) zero k_there l_there same = absurd (cc same)
inner_are_distinct (suc zero) (suc zero) k_there l_there same = refl
inner_are_distinct (suc (suc k)) l k_there l_there same = absurd (omega (arith, k_there))
inner_are_distinct k (suc (suc l)) k_there l_there same = absurd (omega (arith, l_there))

kinds_are : (q : ℕ) → q < 2 → HasKind (kind_at (Codes ∷ Runs ∷ []) q) (part_at both.parts q)
kinds_are zero there = outer_are_distinct
kinds_are (suc zero) there = inner_are_distinct
kinds_are (suc (suc q)) there = absurd (omega (arith, there))

-- both parts are in the form that packed files have
pub both_is_canonical : IsCanonical 3 both (Codes ∷ Runs ∷ [])
both_is_canonical = record {
  whole = two_whole 3 both.parts outer.columns inner.columns outer.codes inner.codes outer.tuples inner.tuples 2 1 refl
      refl refl refl
      refl refl refl outer_is_group inner_is_group;
  a_kind_each = refl;
  in_order = in_order;
  numbered = numbered;
  kinds_are = kinds_are;
}

-- two equal tuples are not, whichever rows they have
abbrev twins : Layout
twins = record {
  rows = 2;
  cols = 1;
  parts = record { columns = 0 ∷ []; codes = 0 ∷ 1 ∷ []; tuples = (pos 7 ∷ []) ∷ (pos 7 ∷ []) ∷ [] } ∷
      [];
}

pub twins_are_not_canonical : (bits : ℕ) → IsCanonical bits twins (Codes ∷ []) → ⊥
twins_are_not_canonical bits is =
    let same : 0 ≡ 1 = is.kinds_are 0 (omega arith) 0 1 (omega arith) (omega arith) refl in
    absurd (omega (arith, same))
