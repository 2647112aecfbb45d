-- The matrix that a whole layout stands for.
use Rattle.std.proofs.Common.{◌≡◌, ℕ, ℤ, pos, ◌+◌, ◌*◌, ◌/◌, ◌%◌, ◌<◌, List, length, get_or, eqb, refl, ap, sym, ◌∙◌}
use Rattle.std.proofs.Common.{arith}
use Rattle.std.proofs.Math.Nat.{div-lt_iff_lt-mul}
use Rattle.std.proofs.lemmas.Bool.{ltb-true, eqb-true}
use Rattle.std.proofs.lemmas.List.Sums.{passes_at_first}
use Rattle.std.proofs.lemmas.Nat.{div-add-mod'}
use Rattle.std.proofs.lemmas.List.{ext_get_or}
use Rattle.std.proofs.lemmas.List.Elements.{All-from_get_or}
use Rattle.cla_spec.specs.Numbers.{InRange}
use Rattle.cla_spec.specs.Matrix.{Matrix, entry, row_by_row, IsShaped, IsWellMade}
use Rattle.cla_spec.proofs.Entries.{row_by_row-at, row_by_row-count, row_by_row-entry}
use Rattle.cla_layout.specs.Groups.{code_of, cell_of, first_row_of}
use Rattle.cla_layout.specs.Layouts.{Layout, StandsFor, IsWhole, part_at, entry_in, matrix_in, transposed}
use Rattle.cla_layout.proofs.Wholes.{some_part, entry_of_part, own_column, own_column_within}

pub entry_matrix_in : (layout : Layout) (i j : ℕ) → i < layout.rows → j < layout.cols → entry (matrix_in layout) i j
    ≡ entry_in layout.parts i j
entry_matrix_in layout i j row col = row_by_row-entry layout.rows layout.cols (entry_in layout.parts) i j row col

pub stands : (bits : ℕ) (layout : Layout) → IsWhole bits layout → StandsFor layout (matrix_in layout)
stands bits layout whole = record {
  rows = refl;
  cols = refl;
  partition = whole.partition;
  entries = λ q i c there row place.
      (let part = part_at layout.parts q in
      let own = own_column part c ((whole.each q there).rising) place in
      let j = code_of part.columns c in
      let col : j < layout.cols = own_column_within layout.cols layout.parts q j whole.partition there own.1 in
      entry_matrix_in layout i j row col ∙ entry_of_part layout.cols layout.parts q i j whole.partition there col own.1
      ∙ ap (cell_of part.codes part.tuples i) own.0);
}

-- every entry is in range
pub entry_small : (bits : ℕ) (layout : Layout) (i j : ℕ) → IsWhole bits layout → i < layout.rows → j < layout.cols
    → InRange bits (entry_in layout.parts i j)
entry_small bits layout i j whole row col =
    let found = some_part layout.cols layout.parts j whole.partition col in
    let part = part_at layout.parts found.0 in
    let is = whole.each found.0 found.1 in
    let place = ltb-true _ _ found.2 in
    let code = is.group.in_tuples i (rw is.a_code_each row) in
    rw (entry_of_part layout.cols layout.parts found.0 i j whole.partition found.1 col found.2)
    (is.group.small (code_of part.codes i) (first_row_of part.columns j) code place)

-- a matrix is its cells
pub same_matrix : (m : Matrix) (f : ℕ → ℕ → ℤ) → IsShaped m.rows m.cols m.cells
    → ((i j : ℕ) → i < m.rows → j < m.cols → entry m i j ≡ f i j) → m.cells ≡ row_by_row m.rows m.cols f
same_matrix m f shaped same =
    ext_get_or (pos 0) m.cells (row_by_row m.rows m.cols f) (shaped.count ∙ sym (row_by_row-count m.rows m.cols f))
    (λ p lt. (let there : p < m.rows * m.cols = rw shaped.count at lt in
    let split : p / m.cols * m.cols + p % m.cols ≡ p = div-add-mod' p m.cols in
    ap (λ (q : ℕ). get_or m.cells q (pos 0)) (sym split)
    ∙ same (p / m.cols) (p % m.cols) ((div-lt_iff_lt-mul shaped.a_col).1 there) (omega (arith, shaped.a_col))
    ∙ sym (row_by_row-at m.rows m.cols f p (pos 0) there)))

-- the place of a listed column
pub column_there : (columns : List ℕ) (j : ℕ) → first_row_of columns j < length columns →
    code_of columns (first_row_of columns j) ≡ j
column_there columns j there = eqb-true _ _ (passes_at_first (λ code. eqb code j) columns 0 there)

pub one_matrix : (bits : ℕ) (layout : Layout) (m : Matrix) → IsWhole bits layout → IsShaped m.rows m.cols m.cells →
    StandsFor layout m → m
    ≡ matrix_in layout
one_matrix bits layout m whole shaped standing =
    let cells = same_matrix m (entry_in layout.parts) shaped (λ i j row col.
    (let col_there : j < layout.cols = rw standing.cols at col in
    let found = some_part layout.cols layout.parts j whole.partition col_there in
    let part = part_at layout.parts found.0 in
    let place = ltb-true _ _ found.2 in
    ap (entry m i) (sym (column_there part.columns j place))
    ∙ standing.entries found.0 i (first_row_of part.columns j) found.1 (rw standing.rows at row) place
    ∙ sym (entry_of_part layout.cols layout.parts found.0 i j whole.partition found.1 col_there found.2))) in
    ap (λ (r : ℕ). record { rows = r; cols = m.cols; cells = m.cells }) standing.rows
    ∙ ap (λ (c : ℕ). record { rows = layout.rows; cols = c; cells = m.cells }) standing.cols
    ∙ ap (λ (cs : List ℤ). record { rows = layout.rows; cols = layout.cols; cells = cs })
    (rw (standing.rows, standing.cols) at cells)

pub transposed_twice : (m : Matrix) → IsShaped m.rows m.cols m.cells → transposed (transposed m) ≡ m
transposed_twice m shaped =
    ap (λ (cs : List ℤ). record { rows = m.rows; cols = m.cols; cells = cs })
    (sym (same_matrix m (λ i j. entry (transposed m) j i) shaped
    (λ i j row col. sym (row_by_row-entry m.cols m.rows (λ j i. entry m i j) j i col row))))

-- and it is well made
pub well_made : (bits : ℕ) (layout : Layout) → IsWhole bits layout → IsWellMade bits (matrix_in layout)
well_made bits layout whole = record {
  shape = record {
    a_row = whole.a_row;
    a_col = whole.a_col;
    count = row_by_row-count layout.rows layout.cols
        (entry_in layout.parts);
    few = whole.few;
  };
  in_range = All-from_get_or (InRange bits) (matrix_in layout).cells (pos 0) (λ p lt.
      (let there : p < layout.rows * layout.cols = rw (row_by_row-count layout.rows layout.cols (entry_in layout.parts))
      at lt in
      rw (row_by_row-at layout.rows layout.cols (entry_in layout.parts) p (pos 0) there)
      (entry_small bits layout (p / layout.cols) (p % layout.cols) whole ((div-lt_iff_lt-mul whole.a_col).1 there)
      (omega (arith, whole.a_col)))));
}
