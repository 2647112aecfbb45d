-- Entries of matrices whose cells are given row by row.
use Rattle.std.proofs.Common.{◌≡◌, ℕ, ℤ, pos, suc, ◌+◌, ◌*◌, ◌/◌, ◌%◌, ◌<◌, ◌≤◌, length, get_or, refl, sym, ◌∙◌, arith}
use Rattle.std.proofs.Math.Nat.{mul-le-mul_right, div-lt_iff_lt-mul}
use Rattle.std.proofs.lemmas.Nat.{div-mul-add, mod-mul-add}
use Rattle.std.proofs.lemmas.List.{ext_get_or}
use Rattle.std.proofs.lemmas.List.FromFn.{length-map-range_with_len, get_or-map-range_with_len}
use Rattle.cla_spec.specs.Matrix.{Matrix, entry, row_by_row, scaled_entry, scaled}

-- the place of a cell
pub cell_within : (rows cols i j : ℕ) → i < rows → j < cols → i * cols + j < rows * cols
cell_within rows cols i j row col =
    let up_to : suc i * cols ≤ rows * cols = mul-le-mul_right cols row in
    omega (arith, up_to, col)

pub row_by_row-at : {X : Type 0} (rows cols : ℕ) (cell : ℕ → ℕ → X) (p : ℕ) (d : X) → p < rows * cols →
    get_or (row_by_row rows cols cell) p d ≡ cell (p / cols) (p % cols)
row_by_row-at rows cols cell p d there = get_or-map-range_with_len (λ p. cell (p / cols) (p % cols)) 0 (rows * cols) p p
    d there (omega arith)

pub row_by_row-count : {X : Type 0} (rows cols : ℕ) (cell : ℕ → ℕ → X) → length (row_by_row rows cols cell)
    ≡ rows * cols
row_by_row-count rows cols cell = length-map-range_with_len (λ p. cell (p / cols) (p % cols)) 0 (rows * cols)

-- the same cells stand in the same list
pub row_by_row-same : {X : Type 0} (rows cols : ℕ) (f g : ℕ → ℕ → X) (d : X) → 1 ≤ cols →
    ((i j : ℕ) → i < rows → j < cols → f i j ≡ g i j) → row_by_row rows cols f ≡ row_by_row rows cols g
row_by_row-same rows cols f g d some same =
    ext_get_or d (row_by_row rows cols f) (row_by_row rows cols g) (row_by_row-count rows cols f
    ∙ sym (row_by_row-count rows cols g))
    (λ p lt. (let there : p < rows * cols = rw (row_by_row-count rows cols f) at lt in
    row_by_row-at rows cols f p d there ∙ same (p / cols) (p % cols) ((div-lt_iff_lt-mul some).1 there)
    (omega (arith, some)) ∙ sym (row_by_row-at rows cols g p d there)))

-- the entry of cells that are given row by row
pub row_by_row-entry : (rows cols : ℕ) (f : ℕ → ℕ → ℤ) (i j : ℕ) → i < rows → j < cols →
    get_or (row_by_row rows cols f) (i * cols + j) (pos 0) ≡ f i j
row_by_row-entry rows cols f i j row col =
    row_by_row-at rows cols f (i * cols + j) (pos 0) (cell_within rows cols i j row col)
    ∙ rw (div-mul-add i cols j col, mod-mul-add i cols j col) refl

-- an entry of a matrix times an integer
pub entry-scaled : (m : Matrix) (k : ℤ) (i j : ℕ) → i < m.rows → j < m.cols → entry (scaled m k) i j
    ≡ scaled_entry (entry m) k i j
entry-scaled m k i j row col = row_by_row-entry m.rows m.cols (scaled_entry (entry m) k) i j row col
