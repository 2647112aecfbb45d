-- The cells of an array file, one after the other, and how many there are.
use Rattle.std.proofs.Common.{◌≡◌, ℕ, zero, suc, ◌+◌, ◌-◌, ◌*◌, ◌/◌, ◌<◌, ◌≤◌, List, [], ◌∷◌, ◌++◌, length, map, drop}
use Rattle.std.proofs.Common.{get_or, true, inl, inr, refl, sym, subst, ap, ◌∙◌, arith, length-append, length-drop}
use Rattle.std.specs.List.{range_with_len}
use Rattle.std.proofs.lemmas.Bool.{cases_lt, lt-ltb, le-ltb, eqb-true}
use Rattle.std.proofs.lemmas.List.{get_or-drop, drop-drop}
use Rattle.std.proofs.lemmas.List.FromFn.{length-map-range_with_len}
use Rattle.std.proofs.Math.Nat.{mul_comm}
use Rattle.cla_market.specs.declared.banner.Symmetry.{Symmetry}
use Rattle.cla_market.specs.declared.banner.Symmetry.TheVariants.{General, Symmetric, SkewSymmetric}
use Rattle.cla_market.specs.declared.size.Size.{Size}
use Rattle.cla_market.specs.Sizes.{is_square, array_entries}
use Rattle.cla_market.specs.Entries.{first_row, column_cells, array_cells, array_cell}
use Rattle.cla_mtx.specs.declared.next_cell.Cell.{Cell}
use Rattle.cla_mtx.specs.Cells.{first_cell, cell_after, columns_from, IsNextCell}

column_cons : (row rows col : ℕ) → row < rows
    → column_cells row rows col ≡ (row, col) ∷ column_cells (row + 1) rows col
column_cons row rows col lt =
    let more : rows - row ≡ suc (rows - (row + 1)) = omega arith in
    ap (λ (k : ℕ). map (λ (i : ℕ). (i, col)) (range_with_len row k)) more

column_none : (row rows col : ℕ) → rows ≤ row → column_cells row rows col ≡ []
column_none row rows col le =
    let none : rows - row ≡ 0 = omega arith in
    ap (λ (k : ℕ). map (λ (i : ℕ). (i, col)) (range_with_len row k)) none

-- the cell with which the cells that are left begin
pub next_is : (mirroring : Symmetry) (size : Size) (n : ℕ) (cell : Cell)
    → IsNextCell mirroring size.rows size.cols n cell → array_cell mirroring size n ≡ (cell.row, cell.col)
next_is mirroring size n cell next =
    let cells = array_cells mirroring size.rows size.cols in
    let others = columns_from mirroring size.rows (cell.col + 1) (size.cols - (cell.col + 1)) in
    let none : ℕ × ℕ = (0, 0) in
    let same : n + 0 ≡ n = omega arith in
    ap (λ (k : ℕ). get_or cells k none) (sym same) ∙ sym (get_or-drop n cells 0 none)
    ∙ ap (λ (xs : List (ℕ × ℕ)). get_or xs 0 none)
    (next.left ∙ ap (λ (xs : List (ℕ × ℕ)). xs ++ others) (column_cons cell.row size.rows cell.col next.row))

-- a column that has no cells is the last one
last_column : (mirroring : Symmetry) (rows cols col : ℕ) → 0 < rows → is_square mirroring rows cols ≡ true
    → col < cols → rows ≤ first_row mirroring col → cols - (col + 1) ≡ 0
last_column General rows cols col some square lt le = absurd (omega arith)
last_column Symmetric rows cols col some square lt le =
    absurd (omega (arith, eqb-true rows cols square, lt, le))
last_column SkewSymmetric rows cols col some square lt le = omega (arith, eqb-true rows cols square, lt, le)

-- a column with which the cells that are left begin
column_next : (mirroring : Symmetry) (rows cols n col : ℕ) → 0 < rows → is_square mirroring rows cols ≡ true
    → drop n (array_cells mirroring rows cols) ≡ columns_from mirroring rows col (cols - col)
    → (drop n (array_cells mirroring rows cols) ≡ [] → ⊥)
    → IsNextCell mirroring rows cols n (first_cell mirroring col)
column_next mirroring rows cols n col a_row square left some =
    let first = first_row mirroring col in
    let others = columns_from mirroring rows (col + 1) (cols - (col + 1)) in
    elim (cases_lt col cols) [
      | inl lt ↦
          let split : cols - col ≡ suc (cols - (col + 1)) = omega arith in
          let whole : drop n (array_cells mirroring rows cols) ≡ column_cells first rows col ++ others = left
          ∙ ap (columns_from mirroring rows col) split in
          elim (cases_lt first rows) [
            | inl low ↦ record { row = low; col = lt; left = whole }
            | inr high ↦ absurd (some (whole
                ∙ ap (λ (xs : List (ℕ × ℕ)). xs ++ others) (column_none first rows col high)
                ∙ ap (columns_from mirroring rows (col + 1))
                (last_column mirroring rows cols col a_row square lt high)))
          ]
      | inr last ↦
          let none : cols - col ≡ 0 = omega arith in
          absurd (some (left ∙ ap (columns_from mirroring rows col) none))
    ]

not_empty : {X : Type 0} (n : ℕ) (xs : List X) → n < length xs → drop n xs ≡ [] → ⊥
not_empty n xs more none = omega (arith, more, length-drop n xs, ap length none)

-- the first cell
pub first_next : (mirroring : Symmetry) (rows cols : ℕ) → 0 < rows → is_square mirroring rows cols ≡ true
    → 0 < length (array_cells mirroring rows cols) → IsNextCell mirroring rows cols 0 (first_cell mirroring 0)
first_next mirroring rows cols a_row square some =
    let all : cols ≡ cols - 0 = omega arith in
    column_next mirroring rows cols 0 0 a_row square (ap (columns_from mirroring rows 0) all)
    (not_empty 0 (array_cells mirroring rows cols) some)

-- the cells that are left after one more entry
pub next_after : (mirroring : Symmetry) (rows cols n : ℕ) (cell : Cell) → is_square mirroring rows cols ≡ true
    → n + 1 < length (array_cells mirroring rows cols) → IsNextCell mirroring rows cols n cell
    → IsNextCell mirroring rows cols (n + 1) (cell_after mirroring rows cell.row cell.col)
next_after mirroring rows cols n cell square more next =
    let cells = array_cells mirroring rows cols in
    let col = cell.col + 1 in
    let others = columns_from mirroring rows col (cols - col) in
    let here : drop n cells ≡ (cell.row, cell.col) ∷ (column_cells (cell.row + 1) rows cell.col ++ others) = next.left
    ∙ ap (λ (xs : List (ℕ × ℕ)). xs ++ others) (column_cons cell.row rows cell.col next.row) in
    let later : drop (n + 1) cells ≡ column_cells (cell.row + 1) rows cell.col ++ others = sym (drop-drop 1 n cells)
    ∙ ap (drop 1) here in
    elim (cases_lt (cell.row + 1) rows) [
      | inl lt ↦ subst (IsNextCell mirroring rows cols (n + 1)) (rw (lt-ltb (cell.row + 1) rows lt) refl)
          (record { row = lt; col = next.col; left = later })
      | inr le ↦ subst (IsNextCell mirroring rows cols (n + 1)) (rw (le-ltb (cell.row + 1) rows le) refl)
          (column_next mirroring rows cols (n + 1) col (omega (arith, next.row)) square
          (later ∙ ap (λ (xs : List (ℕ × ℕ)). xs ++ others) (column_none (cell.row + 1) rows cell.col le))
          (not_empty (n + 1) cells more))
    ]

column_count : (first rows col : ℕ) → length (column_cells first rows col) ≡ rows - first
column_count first rows col = length-map-range_with_len (λ (i : ℕ). (i, col)) first (rows - first)

general_count : (rows col n : ℕ) → length (columns_from General rows col n) ≡ n * rows
general_count rows col zero = omega arith
general_count rows col (suc n) =
    let here = column_cells 0 rows col in
    let others = columns_from General rows (col + 1) n in
    length-append here others
    ∙ omega (arith, column_count 0 rows col, general_count rows (col + 1) n)

symmetric_count : (rows col n : ℕ) → col + n ≡ rows → 2 * length (columns_from Symmetric rows col n) ≡ n * (n + 1)
symmetric_count rows col zero whole = refl
symmetric_count rows col (suc n) whole =
    let here = column_cells col rows col in
    let others = columns_from Symmetric rows (col + 1) n in
    let rest : rows - col ≡ n + 1 = omega (arith, whole) in
    omega (
      arith,
      length-append here others,
      column_count col rows col,
      rest,
      symmetric_count rows (col + 1) n (omega (arith, whole)),
    )

skew_count : (rows col n : ℕ) → col + n ≡ rows → 2 * length (columns_from SkewSymmetric rows col n) + n ≡ n * n
skew_count rows col zero whole = refl
skew_count rows col (suc n) whole =
    let here = column_cells (col + 1) rows col in
    let others = columns_from SkewSymmetric rows (col + 1) n in
    let rest : rows - (col + 1) ≡ n = omega (arith, whole) in
    omega (
      arith,
      length-append here others,
      column_count (col + 1) rows col,
      rest,
      skew_count rows (col + 1) n (omega (arith, whole)),
    )

half : (n a : ℕ) → 2 * n ≡ a → n ≡ a / 2
half n a twice = omega (arith, twice)

less_one : (n : ℕ) → n * (n - 1) + n ≡ n * n
less_one zero = refl
less_one (suc n) = let back : suc n - 1 ≡ n = omega arith in rw back (omega arith)

-- an array file has an entry for each of its cells
pub cells_count : (mirroring : Symmetry) (rows cols : ℕ) → is_square mirroring rows cols ≡ true
    → length (array_cells mirroring rows cols) ≡ array_entries mirroring rows cols
cells_count General rows cols square = general_count rows 0 cols ∙ mul_comm cols rows
cells_count Symmetric rows cols square =
    let same : cols ≡ rows = sym (eqb-true rows cols square) in
    ap (λ (n : ℕ). length (columns_from Symmetric rows 0 n)) same
    ∙ half (length (columns_from Symmetric rows 0 rows)) (rows * (rows + 1)) (symmetric_count rows 0 rows (omega arith))
cells_count SkewSymmetric rows cols square =
    let same : cols ≡ rows = sym (eqb-true rows cols square) in
    ap (λ (n : ℕ). length (columns_from SkewSymmetric rows 0 n)) same
    ∙ half (length (columns_from SkewSymmetric rows 0 rows)) (rows * (rows - 1))
    (omega (arith, skew_count rows 0 rows (omega arith), less_one rows))
