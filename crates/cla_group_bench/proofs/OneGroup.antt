-- A table of one group of one column.
use Rattle.std.proofs.Common.{◌≡◌, Bool, false, ℕ, ℤ, zero, suc, ◌<◌, ◌≤◌, List, [], ◌∷◌, length, cond, eqb, refl}
use Rattle.std.proofs.Common.{arith, inl, inr}
use Rattle.std.proofs.lemmas.Bool.{cases_Bool, eqb-true}
use Rattle.std.proofs.lemmas.List.Sums.{sum_by-cons}
use Rattle.cla_layout.specs.Groups.{IsGroup}
use Rattle.cla_layout.specs.Layouts.{LayoutPart, IsWhole, IsPart, layout_with, part_at, count_of}

abbrev pub one_group : List ℕ → List (List ℤ) → List LayoutPart
one_group codes tuples = record { columns = 0 ∷ []; codes = codes; tuples = tuples } ∷ []

once : (j : ℕ) → j < 1 → count_of (0 ∷ []) j ≡ 1
once zero there = refl
once (suc j) there = absurd (omega (arith, there))

nothing : (b : Bool) → b ≡ false → cond b 1 0 ≤ 0
nothing b is = rw is (omega arith)

no_other : (j : ℕ) → 1 ≤ j → count_of (0 ∷ []) j ≡ 0
no_other j past =
    let more = sum_by-cons (λ code. cond (eqb code j) 1 0) 0 [] in
    elim (cases_Bool (eqb 0 j)) [
      | inl here ↦ absurd (omega (arith, past, eqb-true 0 j here))
      | inr elsewhere ↦ omega (arith, more, nothing (eqb 0 j) elsewhere)
    ]

each : (bits : ℕ) (codes : List ℕ) (tuples : List (List ℤ)) → IsGroup bits 1 codes tuples
    → (q : ℕ) → q < 1 → IsPart bits (length codes) (part_at (one_group codes tuples) q)
each bits codes tuples is zero there = record {
  rising = λ c d before in_part. absurd (omega (arith, before, in_part));
  a_code_each = refl;
  group = is;
}
each bits codes tuples is (suc q) there = absurd (omega (arith, there))

-- it is a whole layout
pub one_group_whole : (bits : ℕ) (codes : List ℕ) (tuples : List (List ℤ)) → IsGroup bits 1 codes tuples
    → IsWhole bits (layout_with (length codes) 1 (one_group codes tuples))
one_group_whole bits codes tuples is = record {
  a_row = is.a_row;
  a_col = omega arith;
  few = is.few_cells;
  partition = record { once = once; no_other = no_other };
  each = each bits codes tuples is;
}
