-- Sums in either form.
use Rattle.std.proofs.Common.{length-append, inl, inr, zero, suc, [], ◌∷◌, ◌++◌, ◌≤◌, take, slice_get, Some, ◌≡◌, ℕ}
use Rattle.std.proofs.Common.{ℤ, pos, ◌+◌, ◌*◌, ◌/◌, ◌%◌, ◌<◌, ◌^◌, ◌==◌, ◌&&◌, cond, List, length, map, replicate}
use Rattle.std.proofs.Common.{set, get_or, get_or-set_other, get_or-set_same, refl, sym, ap, ◌∙◌, arith, Result, Ok}
use Rattle.std.proofs.Common.{Err, OnOk, OnErr}
use Rattle.std.proofs.lemmas.Bool.{cases_eq, eq-eqb, ne_eqb}
use Rattle.std.proofs.lemmas.List.{map-set, length-map}
use Rattle.std.proofs.lemmas.Nat.{same_from_place, pow_pos, div-add-mod'}
use Rattle.std.proofs.Math.Nat.{div-lt_iff_lt-mul}
use Rattle.cla_table.specs.declared.grid.Grid.{Grid}
use Rattle.cla_table.specs.Kept.{Keeps, AreWithin}
use Rattle.cla_table.specs.Places.{place_of}
use Rattle.cla_table.specs.Sums.{few_sum, dense_sum, AreSame, AreZero, with_cell}
use Rattle.cla_table.proofs.PlaceLaws.{places_differ, place_within}
use Rattle.cla_table.proofs.KeptLaws.{written, written_more, within_at}

pub on_ok : {A E P Q : Type 0} (r : Result A E) → (P → Q) → OnOk r P → OnOk r Q
on_ok (Ok x) f h = f h
on_ok (Err e) f h = tt

-- a function that changed at one place, seen cell by cell
pub cell_of_place : (cols row col i j : ℕ) (v w : ℤ) → col < cols → j < cols
    → cond (i * cols + j == row * cols + col) v w ≡ cond (row == i && col == j) v w
cell_of_place cols row col i j v w within left = elim (cases_eq row i) [
  | inl same_row ↦ elim (cases_eq col j) [
    | inl same_col ↦ rw (
      ← same_row,
      ← same_col,
      eq-eqb (row * cols + col)
          (row * cols + col) refl,
      eq-eqb row row refl,
      eq-eqb col col refl,
    ) refl
    | inr other ↦ rw (
      ne_eqb (i * cols + j) (row * cols + col)
          (λ h. other (sym (same_from_place i j row col cols left within h).1)),
      ne_eqb col j other,
      eq-eqb row i
          same_row,
    ) refl
  ]
  | inr other ↦ rw (
    ne_eqb (i * cols + j) (row * cols + col)
        (λ h. other (sym (same_from_place i j row col cols left within h).0)),
    ne_eqb row i other,
  ) refl
]

take_none : {N : Type 0} (n : ℕ) → take {A = N} n [] ≡ []
take_none zero = refl
take_none (suc n) = refl

module _ {N : Type 0} (value : N → ℤ) where
  -- few sums, once one is set
  pub few_set : (grid : Grid) (old new : List (ℕ × N)) (row col : ℕ) (v : ℤ) → col < grid.cols
      → Keeps value old new (row * grid.cols + col) v
      → AreSame grid (few_sum value grid new) (with_cell (few_sum value grid old) row col v)
  few_set grid old new row col v within keeps i j below left = keeps (i * grid.cols + j)
      ∙ cell_of_place grid.cols row col i j v (few_sum value grid old i j) within left

  -- cells in panels, once one is set
  pub dense_set : (grid : Grid) (cells : List N) (row col place : ℕ) (n : N) → length cells ≡ grid.rows * grid.cols
      → row < grid.rows → col < grid.cols → place ≡ place_of (2 ^ grid.shift) grid.rows grid.cols row col
      → AreSame grid (dense_sum value grid (set cells place n))
      (with_cell (dense_sum value grid cells) row col (value n))
  dense_set grid cells row col place n whole below within at i j low left =
      let panel = 2 ^ grid.shift in
      let here = place_of panel grid.rows grid.cols row col in
      let there = place_of panel grid.rows grid.cols i j in
      let inside : here < length (map value cells) = omega (
        arith,
        length-map cells value,
        whole,
        place_within panel grid.rows grid.cols row col
            (pow_pos grid.shift) below within,
      ) in
      let apart = λ (h : there ≡ here). places_differ panel grid.rows grid.cols i j row col
      (pow_pos grid.shift) low below left within h in
      rw (at, map-set value cells here n) (elim (cases_eq row i) [
        | inl same_row ↦ elim (cases_eq col j) [
          | inl same_col ↦ rw (← same_row, ← same_col, eq-eqb row row refl, eq-eqb col col refl)
              (get_or-set_same (map value cells) here (value n) (pos 0) inside)
          | inr other ↦ rw (ne_eqb col j other, eq-eqb row i same_row)
              (get_or-set_other (map value cells) here there (value n) (pos 0) (λ h. other (sym (apart h).1)))
        ]
        | inr other ↦ rw (ne_eqb row i other)
            (get_or-set_other (map value cells) here there (value n) (pos 0) (λ h. other (sym (apart h).0)))
      ])

  -- numbers that are all 0
  pub zeros_are : (count : ℕ) (n : N) → value n ≡ pos 0 → AreZero value (replicate count n)
  zeros_are zero n at k = refl
  zeros_are (suc count) n at zero = at
  zeros_are (suc count) n at (suc k) = zeros_are count n at k

  pub filled_up : (old new : List N) (length count : ℕ) (n : N) → old ≡ [] → new ≡ take length old ++ replicate count n
      → value n ≡ pos 0 → AreZero value new
  filled_up old new length count n none is at =
      rw (is, none, take_none length) (zeros_are count n at)

  -- one more entry is written
  pub written_on : (grid : Grid) (entries : List (ℕ × N)) (k : ℕ) (e : ℕ × N) (cells : List N) (place : ℕ)
      → length cells ≡ grid.rows * grid.cols → slice_get entries k ≡ Some e
      → AreWithin (grid.rows * grid.cols) entries → 1 ≤ grid.cols
      → place ≡ place_of (2 ^ grid.shift) grid.rows grid.cols (e.0 / grid.cols) (e.0 % grid.cols)
      → AreSame grid (dense_sum value grid cells) (λ i j. written value (take k entries) (pos 0) (i * grid.cols + j))
      → AreSame grid (dense_sum value grid (set cells place e.1))
      (λ i j. written value (take (k + 1) entries) (pos 0) (i * grid.cols + j))
  written_on grid entries k e cells place whole here all some at so_far i j low left =
      let within : e.0 < grid.rows * grid.cols = within_at value (grid.rows * grid.cols) entries k e all here in
      let row : e.0 / grid.cols < grid.rows = (div-lt_iff_lt-mul some).1 within in
      let col : e.0 % grid.cols < grid.cols = omega arith in
      let split : e.0 ≡ e.0 / grid.cols * grid.cols + e.0 % grid.cols = omega (arith, div-add-mod' e.0 grid.cols) in
      let next : k + 1 ≡ suc k = omega arith in
      dense_set grid cells (e.0 / grid.cols) (e.0 % grid.cols) place e.1 whole row col at i j low left
      ∙ sym (cell_of_place grid.cols (e.0 / grid.cols) (e.0 % grid.cols) i j (value e.1)
      (dense_sum value grid cells i j) col left)
      ∙ ap (λ (z : ℤ). cond (i * grid.cols + j == e.0 / grid.cols * grid.cols + e.0 % grid.cols) (value e.1) z)
      (so_far i j low left)
      ∙ ap (λ (p : ℕ). cond (i * grid.cols + j == p) (value e.1)
      (written value (take k entries) (pos 0) (i * grid.cols + j))) (sym split)
      ∙ sym (written_more value entries k e (pos 0) (i * grid.cols + j) here)
      ∙ ap (λ (n : ℕ). written value (take n entries) (pos 0) (i * grid.cols + j)) (sym next)

-- sums that were set after they were kept in another form
pub set_then : (grid : Grid) (f g h : ℕ → ℕ → ℤ) (row col : ℕ) (v : ℤ) → AreSame grid g f
    → AreSame grid h (with_cell g row col v) → AreSame grid h (with_cell f row col v)
set_then grid f g h row col v same set i j low left = set i j low left
    ∙ ap (λ (z : ℤ). cond (row == i && col == j) v z) (same i j low left)

pub same_then : (grid : Grid) (f g h : ℕ → ℕ → ℤ) → AreSame grid g f → AreSame grid h g → AreSame grid h f
same_then grid f g h same more i j low left = more i j low left ∙ same i j low left

pub on_err : {A E P Q : Type 0} (r : Result A E) → (P → Q) → OnErr r P → OnErr r Q
on_err (Ok x) f h = tt
on_err (Err e) f h = f h
