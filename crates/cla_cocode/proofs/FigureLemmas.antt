-- Figures of columns, counted row by row.
use Rattle.std.proofs.Common.{◌≡◌, ℕ, ◌+◌, ◌*◌, ◌≤◌, Bool, cond, length, sym, ap, ◌∙◌, arith, Option, Some, None, inl}
use Rattle.std.proofs.Common.{inr, mul-le-mul_right, mul-le-mul_left}
use Rattle.std.proofs.lemmas.Bool.{cases_Bool}
use Rattle.std.proofs.lemmas.List.{length_push}
use Rattle.cla_spec.specs.Matrix.{most_cells}
use Rattle.cla_layout.specs.Listed.{rows_where}
use Rattle.cla_layout.proofs.Listings.{rows_where_yes, rows_where_no, rows_where_few}
use Rattle.cla_grouping.specs.Tuples.{TuplesOf, AreTuples}
use Rattle.cla_grouping.specs.Sizes.{AreSmall, figures_of, listed_of, is_listed, begins_listed}

-- one more row
pub rows_more : (test : ℕ → Bool) (i : ℕ) → length (rows_where test (i + 1))
    ≡ length (rows_where test i) + cond (test i) 1 0
rows_more test i = elim (cases_Bool (test i)) [
  | inl holds ↦ ap length (rows_where_yes test i holds) ∙ length_push (rows_where test i) i
      ∙ ap (λ b. length (rows_where test i) + cond b 1 0) (sym holds)
  | inr fails ↦ ap length (rows_where_no test i fails) ∙ omega arith
      ∙ ap (λ b. length (rows_where test i) + cond b 1 0) (sym fails)
]

listed-few : (zero : Option ℕ) (distinct : ℕ) → listed_of zero distinct ≤ distinct
listed-few None distinct = omega arith
listed-few (Some k) distinct = omega arith

factor : (a b : ℕ) → 1 ≤ b → a * b ≤ most_cells → a ≤ most_cells
factor a b some few = omega (arith, mul-le-mul_left a some, few)

factor_right : (a b : ℕ) → 1 ≤ a → a * b ≤ most_cells → b ≤ most_cells
factor_right a b some few = omega (arith, mul-le-mul_right b some, few)

-- the figures of tuples are small
pub figures-small : (t : TuplesOf) → AreTuples t → AreSmall (figures_of t)
figures-small t are = record {
  wide = factor_right (length t.codes) t.width are.a_row are.few_cells;
  tall = factor (length t.codes) t.width are.a_column are.few_cells;
  cells = are.few_cells;
  distinct = are.few;
  listed = listed-few t.zero t.distinct;
  listed_rows = rows_where_few (is_listed t.zero t.codes) (length t.codes);
  listed_runs = rows_where_few (begins_listed t.zero t.codes) (length t.codes);
}
