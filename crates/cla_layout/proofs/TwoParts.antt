-- A layout of columns 0 and 2, and of column 1.
use Rattle.std.proofs.Common.{◌≡◌, ℕ, ℤ, zero, suc, ◌<◌, ◌≤◌, List, [], ◌∷◌, length, refl, arith, inl, inr}
use Rattle.std.proofs.lemmas.Bool.{cases_lt}
use Rattle.cla_layout.specs.Groups.{code_of, occurrences_of, IsGroup}
use Rattle.cla_layout.proofs.Regroup.{first_row_there, code_of_first_row}
use Rattle.cla_layout.specs.Layouts.{LayoutPart, IsPart, IsWhole, part_at}

outer_rises : (c d : ℕ) → c < d → d < 2 → code_of (0 ∷ 2 ∷ []) c < code_of (0 ∷ 2 ∷ []) d
outer_rises zero zero before there = absurd (omega (arith, before))
outer_rises zero (suc zero) before there = omega arith
outer_rises zero (suc (suc d)) before there = absurd (omega (arith, there))
outer_rises (suc c) d before there = absurd (omega (arith, before, there))

inner_rises : (c d : ℕ) → c < d → d < 1 → code_of (1 ∷ []) c < code_of (1 ∷ []) d
inner_rises c d before there = absurd (omega (arith, before, there))

each_once : (j : ℕ) → j < 3 → occurrences_of (0 ∷ 2 ∷ 1 ∷ []) j ≡ 1
each_once zero there = refl
each_once (suc zero) there = refl
each_once (suc (suc zero)) there = refl
each_once (suc (suc (suc j))) there = absurd (omega (arith, there))

small : (p : ℕ) → p < 3 → code_of (0 ∷ 2 ∷ 1 ∷ []) p < 3
small zero there = omega arith
small (suc zero) there = omega arith
small (suc (suc zero)) there = omega arith
small (suc (suc (suc p))) there = absurd (omega (arith, there))

no_other : (j : ℕ) → 3 ≤ j → occurrences_of (0 ∷ 2 ∷ 1 ∷ []) j ≡ 0
no_other j past = elim (cases_lt 0 (occurrences_of (0 ∷ 2 ∷ 1 ∷ []) j)) [
  | inl some ↦
      let there = first_row_there (0 ∷ 2 ∷ 1 ∷ []) j some in
      let is = code_of_first_row (0 ∷ 2 ∷ 1 ∷ []) j some in
      absurd (omega (arith, past, is, small _ there))
  | inr none ↦ omega (arith, none)
]

each_part : (bits : ℕ) (outer inner : LayoutPart) → IsPart bits 4 outer → IsPart bits 4 inner → (q : ℕ) → q < 2
    → IsPart bits 4 (part_at (outer ∷ inner ∷ []) q)
each_part bits outer inner one other zero there = one
each_part bits outer inner one other (suc zero) there = other
each_part bits outer inner one other (suc (suc q)) there = absurd (omega (arith, there))

-- two groups of four rows as a whole layout
pub two_whole : (bits : ℕ) (parts : List LayoutPart) (outer inner codes codes' : List ℕ)
    (tuples tuples' : List (List ℤ))
    (width width' : ℕ)
    → parts ≡ record { columns = outer; codes = codes; tuples = tuples } ∷ record {
      columns = inner;
      codes =
          codes';
      tuples = tuples';
    } ∷
    []
    → outer ≡ 0 ∷ 2 ∷ [] → inner ≡ 1 ∷ [] → length codes ≡ 4 → length codes' ≡ 4 → width ≡ 2 → width' ≡ 1
    → IsGroup bits width codes tuples → IsGroup bits width' codes' tuples' →
    IsWhole bits (record { rows = 4; cols = 3; parts = parts })
two_whole bits parts outer inner codes codes' tuples tuples' width width' parts_are outer_is inner_is rows rows'
    width_is width_is' group
    group' =
    let one : IsPart bits 4 (record { columns = 0 ∷ 2 ∷ []; codes = codes; tuples = tuples }) =
    record { rising = outer_rises; a_code_each = rows; group = rw width_is at group } in
    let other : IsPart bits 4 (record { columns = 1 ∷ []; codes = codes'; tuples = tuples' }) =
    record { rising = inner_rises; a_code_each = rows'; group = rw width_is' at group' } in
    rw (parts_are, outer_is, inner_is) (record {
      a_row = omega arith;
      a_col = omega arith;
      few = omega arith;
      partition = record { once = each_once; no_other = no_other };
      each = each_part bits _ _ one other;
    })
