-- Tables of sums, seen as matrices.
use Rattle.std.proofs.Common.{Result, Ok, Err, IfOk, inl, inr, ◌≡◌, ℕ, ℤ, pos, ◌+◌, ◌*◌, ◌/◌, ◌%◌, ◌<◌, ◌^◌, ◌+ℤ◌}
use Rattle.std.proofs.Common.{List, [], ◌∷◌, length, map, get_or, refl, sym, ap, ◌∙◌, arith}
use Rattle.std.proofs.lemmas.Bool.{cases_eq, eq-eqb, ne_eqb}
use Rattle.std.proofs.lemmas.Int.{ints}
use Rattle.std.proofs.lemmas.List.{ext_get_or, get_or-map, length-map}
use Rattle.std.proofs.lemmas.Nat.{pow_pos, div-add-mod'}
use Rattle.std.proofs.Math.Nat.{div-lt_iff_lt-mul}
use Rattle.cla_spec.specs.Matrix.{Matrix, entry, row_by_row}
use Rattle.cla_spec.proofs.Entries.{row_by_row-at, row_by_row-count, row_by_row-same, row_by_row-entry}
use Rattle.cla_table.specs.declared.grid.Grid.{Grid}
use Rattle.cla_table.specs.declared.sums.Sums.{Sums}
use Rattle.cla_table.specs.Kept.{sum_among}
use Rattle.cla_table.specs.Places.{first_of, height_of, place_of, AreTurned}
use Rattle.cla_table.specs.Sums.{few_sum, dense_sum, sum_in, AreSame, with_cell, table_of}
use Rattle.cla_table.specs.Tables.{value_at, Adds}
use Rattle.cla_table.proofs.PlaceLaws.{place_within}

-- two lists that have the same element at two places
map_same : {N : Type 0} (value : N → ℤ) (xs ys : List N) (p q : ℕ) → p < length xs → q < length ys
    → ((d : N) → get_or xs p d ≡ get_or ys q d) → get_or (map value xs) p (pos 0) ≡ get_or (map value ys) q (pos 0)
map_same value [] ys p q lt lt' same = absurd (omega (arith, lt))
map_same value (x ∷ xs) ys p q lt lt' same = get_or-map value (x ∷ xs) p x (pos 0) lt ∙ ap value (same x)
    ∙ sym (get_or-map value ys q x (pos 0) lt')

-- in panels of one row each, cells stand row by row
flat_place : (rows cols i j : ℕ) → i < rows → place_of 1 rows cols i j ≡ i * cols + j
unfolding place_of
flat_place rows cols i j low =
    let last : i % 1 < 1 = omega arith in
    let first : first_of 1 i ≡ i = omega (arith, last) in
    let height : height_of 1 rows i ≡ 1 = omega arith in
    rw (first, height) (omega arith)

plus_nothing : (a : ℤ) → a ≡ a +ℤ pos 0
plus_nothing a = omega (arith, ints)

-- the sums of a shape, as a matrix
abbrev matrix_with : Grid → (ℕ → ℕ → ℤ) → Matrix
matrix_with grid f = record { rows = grid.rows; cols = grid.cols; cells = row_by_row grid.rows grid.cols f }

-- the sum at one cell grew
pub cells_add : (grid : Grid) (old new : ℕ → ℕ → ℤ) (row col : ℕ) (v sum : ℤ) → sum ≡ old row col +ℤ v
    → AreSame grid new (with_cell old row col sum) → Adds (matrix_with grid old) (matrix_with grid new) row col v
cells_add grid old new row col v sum is set = record {
  same_rows = refl;
  same_cols = refl;
  grown = λ i j low left. row_by_row-entry grid.rows grid.cols new i j low left ∙ set i j low left ∙ by i j
      ∙ ap (λ (z : ℤ). z +ℤ value_at row col v i j) (sym (row_by_row-entry grid.rows grid.cols old i j low left));
}
  where
    by : (i j : ℕ) → with_cell old row col sum i j ≡ old i j +ℤ value_at row col v i j
    by i j = elim (cases_eq row i) [
      | inl same_row ↦ elim (cases_eq col j) [
        | inl same_col ↦ rw (← same_row, ← same_col, eq-eqb row row refl, eq-eqb col col refl) is
        | inr other ↦ rw (ne_eqb col j other, eq-eqb row i same_row) (plus_nothing (old i j))
      ]
      | inr other ↦ rw (ne_eqb row i other) (plus_nothing (old i j))
    ]

module _ {N : Type 0} (value : N → ℤ) where
  pub entry_is : (grid : Grid) (sums : Sums N) (i j : ℕ) → i < grid.rows → j < grid.cols
      → entry (table_of value grid sums) i j ≡ sum_in value grid sums i j
  entry_is grid sums i j low left = row_by_row-entry grid.rows grid.cols (sum_in value grid sums) i j low left

  pub same_table : (grid : Grid) (old new : Sums N) → AreSame grid (sum_in value grid new) (sum_in value grid old)
      → table_of value grid new ≡ table_of value grid old
  same_table grid old new same = ap (λ (cells : List ℤ). record { rows = grid.rows; cols = grid.cols; cells = cells })
      (row_by_row-same grid.rows grid.cols (sum_in value grid new) (sum_in value grid old) (pos 0) grid.a_col same)

  pub adds : (grid : Grid) (old new : Sums N) (row col : ℕ) (v sum : ℤ) → row < grid.rows → col < grid.cols
      → sum ≡ sum_in value grid old row col +ℤ v
      → AreSame grid (sum_in value grid new) (with_cell (sum_in value grid old) row col sum)
      → Adds (table_of value grid old) (table_of value grid new) row col v
  adds grid old new row col v sum below within is set =
      cells_add grid (sum_in value grid old) (sum_in value grid new) row col v sum is set

  -- the cells of few sums, row by row
  pub few_cells : (grid flat : Grid) (entries : List (ℕ × N)) (cells : List N) → flat.rows ≡ grid.rows
      → flat.cols ≡ grid.cols → flat.shift ≡ 0 → length cells ≡ flat.rows * flat.cols
      → AreSame flat (dense_sum value flat cells) (few_sum value flat entries)
      → map value cells ≡ row_by_row grid.rows grid.cols (few_sum value grid entries)
  few_cells grid flat entries cells rows cols shift count same =
      let f = few_sum value grid entries in
      let long : length (map value cells) ≡ grid.rows * grid.cols = length-map cells value
      ∙ rw (rows, cols) at count in
      ext_get_or (pos 0) (map value cells) (row_by_row grid.rows grid.cols f)
      (long ∙ sym (row_by_row-count grid.rows grid.cols f))
      (λ p lt. (let there : p < grid.rows * grid.cols = omega (arith, lt, long) in
      let low : p / grid.cols < grid.rows = (div-lt_iff_lt-mul grid.a_col).1 there in
      let left : p % grid.cols < grid.cols = omega (arith, grid.a_col) in
      let split : p / grid.cols * grid.cols + p % grid.cols ≡ p = omega (arith, div-add-mod' p grid.cols) in
      let here : dense_sum value flat cells (p / grid.cols) (p % grid.cols) ≡ get_or (map value cells) p (pos 0)
      = rw (rows, cols, shift)
      (ap (λ (q : ℕ). get_or (map value cells) q (pos 0))
      (flat_place grid.rows grid.cols (p / grid.cols) (p % grid.cols) low ∙ split)) in
      sym here ∙ same (p / grid.cols) (p % grid.cols) (omega (arith, low, rows)) (omega (arith, left, cols))
      ∙ ap (λ (w : ℕ). few_sum_at w entries (p / grid.cols) (p % grid.cols)) cols
      ∙ sym (row_by_row-at grid.rows grid.cols f p (pos 0) there)))
    where
      few_sum_at : ℕ → List (ℕ × N) → ℕ → ℕ → ℤ
      few_sum_at w entries i j = sum_among value entries (i * w + j)

  -- the cells of panels that were turned
  pub dense_cells : (grid : Grid) (old new : List N) → length old ≡ grid.rows * grid.cols
      → length new ≡ grid.rows * grid.cols
      → AreTurned (2 ^ grid.shift) grid.rows grid.cols old new
      → map value new ≡ row_by_row grid.rows grid.cols (dense_sum value grid old)
  dense_cells grid old new whole count turned =
      let f = dense_sum value grid old in
      let panel = 2 ^ grid.shift in
      let long : length (map value new) ≡ grid.rows * grid.cols = length-map new value ∙ count in
      ext_get_or (pos 0) (map value new) (row_by_row grid.rows grid.cols f)
      (long ∙ sym (row_by_row-count grid.rows grid.cols f))
      (λ p lt. (let there : p < grid.rows * grid.cols = omega (arith, lt, long) in
      let low : p / grid.cols < grid.rows = (div-lt_iff_lt-mul grid.a_col).1 there in
      let left : p % grid.cols < grid.cols = omega (arith, grid.a_col) in
      let inside = place_within panel grid.rows grid.cols (p / grid.cols) (p % grid.cols)
      (pow_pos grid.shift) low left in
      map_same value new old p (place_of panel grid.rows grid.cols (p / grid.cols) (p % grid.cols))
      (omega (arith, there, count)) (omega (arith, inside, whole)) (λ d. turned p d there)
      ∙ sym (row_by_row-at grid.rows grid.cols f p (pos 0) there)))

-- two facts of a result give a third
pub if_ok_both : {A E : Type 0} {P Q R : A → Type 0} (r : Result A E) → ((x : A) → P x → Q x → R x) → IfOk r P
    → IfOk r Q → IfOk r R
if_ok_both (Ok x) f p q = f x p q
if_ok_both (Err e) f p q = tt
