-- From lines to the entries of products.
use Rattle.std.proofs.Common.{◌≡◌, ℕ, ℤ, pos, ◌+◌, ◌*◌, ◌<◌, ◌≤◌, ◌*ℤ◌, min, max, List, Bool, true, false, not, length}
use Rattle.std.proofs.Common.{map, Result, Ok, Err, cond, Some, None, refl, ap, subst, sym, ◌∙◌, arith}
use Rattle.std.proofs.Math.Nat.{mul_comm}
use Rattle.std.proofs.Math.IntN.{*ℤ_comm}
use Rattle.cla_spec.specs.Numbers.{sum_to}
use Rattle.cla_spec.specs.Matrix.{Matrix, IsShaped, entry, row_by_row, most_cells}
use Rattle.cla_spec.proofs.Entries.{row_by_row-same}
use Rattle.cla_spec.proofs.Sums.{sum_to-same}
use Rattle.cla_num.specs.Fault.{fault_of, exactly}
use Rattle.cla_num.specs.declared.fault.OpFault.{OpFault}
use Rattle.cla_num.specs.declared.fault.Refused.{Refused}
use Rattle.cla_num.specs.declared.fault.Refused.TheVariants.{Op, Memory}
use Rattle.cla_num.proofs.Faults.{fault_of-same}
use Rattle.cla_layout.specs.Groups.{at}
use Rattle.cla_layout.specs.Layouts.{LayoutPart, entry_in}
use Rattle.cla_meaning.specs.Entries.{product_entry}
use Rattle.cla_prod.specs.declared.lines.Lines.{Lines}
use Rattle.cla_prod.specs.declared.numbers.Order.{Order}
use Rattle.cla_prod.specs.declared.numbers.Order.TheVariants.{Rows, Columns, Mirrored}
use Rattle.cla_prod.specs.Answers.{AnswersEntries}
use Rattle.cla_prod.specs.Lines.{entry_turned, cell_at, rows_in, cols_in, entry_by_lines, item_times, line_item}
use Rattle.cla_prod.specs.Lines.{IsSquare}
use Rattle.cla_prod.specs.Columns.{first_item}

-- the matrix whose lines the products are
pub lines_shape : {X : Type 0} (lines : Lines) (order : Order) (cells : List X) → 1 ≤ lines.count → 1 ≤ lines.outer
    → lines.count * lines.outer ≤ most_cells → length cells ≡ lines.count * lines.outer
    → IsShaped (rows_in order lines) (cols_in order lines) cells
lines_shape lines Rows cells a_line some few long =
    record { a_row = a_line; a_col = some; count = long; few = few }
lines_shape lines Columns cells a_line some few long =
    let turn = mul_comm lines.outer lines.count in
    record { a_row = some; a_col = a_line; count = long ∙ sym turn; few = omega (arith, few, turn) }
lines_shape lines Mirrored cells a_line some few long =
    record { a_row = a_line; a_col = some; count = long; few = few }

-- each line has these items, from the first that is found on
abbrev pub AreFound : Order → Lines → (ℕ → ℕ → ℤ) → List ℤ → Type 0
AreFound order lines f cells = (l i : ℕ) → l < lines.count → first_item order l ≤ i → i < lines.outer
    → at cells (l * lines.outer + i) ≡ f l i

-- a cell is the item of its line
pub cell_is : (order : Order) (lines : Lines) (f : ℕ → ℕ → ℤ) (cells : List ℤ) → IsSquare order
    (rows_in order lines) (cols_in order lines)
    → AreFound order lines f cells
    → (i j : ℕ) → i < rows_in order lines → j < cols_in order lines
    → cell_at order (rows_in order lines) (cols_in order lines) cells i j ≡ entry_by_lines order f i j
cell_is Rows lines f cells square are i j row col = are i j row (omega arith) col
cell_is Columns lines f cells square are i j row col = are j i col (omega arith) row
cell_is Mirrored lines f cells square are i j row col = are (min i j) (max i j) (omega (arith, row)) (omega arith)
    (omega (arith, row, col, square))

-- entries by another name
pub entries_named : (bits rows cols : ℕ) (f g : ℕ → ℕ → ℤ) (result : Result Matrix Refused) → 1 ≤ cols
    → ((i j : ℕ) → i < rows → j < cols → f i j ≡ g i j) → AnswersEntries bits rows cols f result
    → AnswersEntries bits rows cols g result
entries_named bits rows cols f g (Ok m) some same (is, none) = (
  is ∙ ap (λ (cells : List ℤ). record { rows = rows; cols = cols; cells = cells })
      (row_by_row-same rows cols f g (pos 0) some same),
  sym (fault_of-same bits rows cols f g some same) ∙ none,
)
entries_named bits rows cols f g (Err (Op fault)) some same is = sym (fault_of-same bits rows cols f g some same) ∙ is
entries_named bits rows cols f g (Err Memory) some same is = tt

-- the same for a matrix of a shape by another name
pub entries_at : (bits rows cols rows' cols' : ℕ) (f g : ℕ → ℕ → ℤ) (result : Result Matrix Refused) → rows ≡ rows'
    → cols ≡ cols' → 1 ≤ cols
    → ((i j : ℕ) → i < rows → j < cols → f i j ≡ g i j) → AnswersEntries bits rows cols f result
    → AnswersEntries bits rows' cols' g result
entries_at bits rows cols rows' cols' f g result row_is col_is some same answers =
    subst (λ (r : ℕ). AnswersEntries bits r cols' g result) row_is
    (subst (λ (n : ℕ). AnswersEntries bits rows n g result) col_is (entries_named bits rows cols f g result some
    same answers))

-- numbers that were written of cells in this order, or the fault of the first that is out of range
abbrev pub WritesNumbers : {N : Type 0} → ℕ → (N → ℤ) → Order → List ℤ → List N → Matrix → ℕ → ℕ → Type 0
WritesNumbers bits value order cells numbers m r w =
    (m ≡ record { rows = r; cols = w; cells = map value numbers })
    × (map value numbers ≡ row_by_row r w (cell_at order r w cells)) ×
    (fault_of bits r w (exactly (cell_at order r w cells)) ≡ None)

abbrev pub MeetsFault : ℕ → Order → List ℤ → OpFault → ℕ → ℕ → Type 0
MeetsFault bits order cells fault r w = fault_of bits r w (exactly (cell_at order r w cells)) ≡ Some fault

pub numbers_named : {N : Type 0} (bits : ℕ) (value : N → ℤ) (order : Order) (lines : Lines) (f : ℕ → ℕ → ℤ)
    (cells : List ℤ) (numbers : List N) (m : Matrix) (r w : ℕ)
    → r ≡ rows_in order lines → w ≡ cols_in order lines → 1 ≤ cols_in order lines → IsSquare order
    (rows_in order lines) (cols_in order lines)
    → AreFound order lines f cells → WritesNumbers bits value order cells numbers m r w
    → AnswersEntries bits (rows_in order lines) (cols_in order lines) (entry_by_lines order f) (Ok m)
numbers_named bits value order lines f cells numbers m r w row_is col_is some square are writes =
    let rows = rows_in order lines in
    let cols = cols_in order lines in
    let all : WritesNumbers bits value order cells numbers m rows cols =
    subst (λ (k : ℕ). WritesNumbers bits value order cells numbers m k cols) row_is
    (subst (λ (k : ℕ). WritesNumbers bits value order cells numbers m r k) col_is writes) in
    entries_named bits rows cols (cell_at order rows cols cells) (entry_by_lines order f) (Ok m) some
    (cell_is order lines f cells square are)
    (all.0 ∙ ap (λ (zs : List ℤ). record { rows = rows; cols = cols; cells = zs }) all.1, all.2)

pub fault_named : (bits : ℕ) (order : Order) (lines : Lines) (f : ℕ → ℕ → ℤ) (cells : List ℤ) (fault : OpFault)
    (r w : ℕ)
    → r ≡ rows_in order lines → w ≡ cols_in order lines → 1 ≤ cols_in order lines → IsSquare order
    (rows_in order lines) (cols_in order lines)
    → AreFound order lines f cells → MeetsFault bits order cells fault r w
    → AnswersEntries bits (rows_in order lines) (cols_in order lines) (entry_by_lines order f) (Err (Op fault))
fault_named bits order lines f cells fault r w row_is col_is some square are meets =
    let rows = rows_in order lines in
    let cols = cols_in order lines in
    entries_named bits rows cols (cell_at order rows cols cells) (entry_by_lines order f) (Err (Op fault)) some
    (cell_is order lines f cells square are)
    (subst (λ (k : ℕ). MeetsFault bits order cells fault k cols) row_is
    (subst (λ (k : ℕ). MeetsFault bits order cells fault r k) col_is meets))

-- a table times the columns of a matrix
pub right_is : (flipped : Bool) (parts : List LayoutPart) (b : Matrix) (inner i j : ℕ) → inner ≡ b.rows
    → item_times flipped parts (line_item Columns b j) inner i
    ≡ product_entry b.rows (entry_turned flipped parts) (entry b) i j
right_is flipped parts b inner i j same =
    ap (λ (n : ℕ). sum_to (λ k. entry_turned flipped parts i k *ℤ entry b k j) n) same

-- an entry of the transpose of the transpose
turned_back : (flipped : Bool) (parts : List LayoutPart) (i k : ℕ) → entry_turned (not flipped) parts i k
    ≡ entry_turned flipped parts k i
turned_back true parts i k = refl
turned_back false parts i k = refl

-- the rows of a matrix times a table
pub left_is : (flipped : Bool) (parts : List LayoutPart) (a : Matrix) (inner i j : ℕ) → inner ≡ a.cols
    → item_times (not flipped) parts (line_item Rows a i) inner j
    ≡ product_entry a.cols (entry a) (entry_turned flipped parts) i j
left_is flipped parts a inner i j same =
    ap (λ (n : ℕ). sum_to (λ k. entry_turned (not flipped) parts j k *ℤ entry a i k) n) same
    ∙ sum_to-same (λ k. entry_turned (not flipped) parts j k *ℤ entry a i k)
    (λ k. entry a i k *ℤ entry_turned flipped parts k j) a.cols
    (λ k lt. *ℤ_comm (entry_turned (not flipped) parts j k) (entry a i k) ∙ ap (λ (z : ℤ). entry a i k *ℤ z)
    (turned_back flipped parts j k))

pub either_some : (b : Bool) (m n : ℕ) → 1 ≤ m → 1 ≤ n → 1 ≤ cond b m n
either_some true m n some also = some
either_some false m n some also = also

-- the product with a column, by other names
pub column_named : (turned flipped : Bool) (parts' parts base' base : List LayoutPart) (inner' inner j i : ℕ)
    → turned ≡ flipped → parts' ≡ parts → base' ≡ base → inner' ≡ inner
    → item_times turned parts' (λ k. entry_in base' k j) inner' i
    ≡ item_times flipped parts (λ k. entry_in base k j) inner i
column_named turned flipped parts' parts base' base inner' inner j i turn same from long =
    ap (λ (t : Bool). item_times t parts' (λ k. entry_in base' k j) inner' i) turn
    ∙ ap (λ (ps : List LayoutPart). item_times flipped ps (λ k. entry_in base' k j) inner' i) same
    ∙ ap (λ (ps : List LayoutPart). item_times flipped parts (λ k. entry_in ps k j) inner' i) from
    ∙ ap (λ (n : ℕ). item_times flipped parts (λ k. entry_in base k j) n i) long

-- a table times a column of another
pub columns_right : (flipped : Bool) (parts base : List LayoutPart) (y : ℕ → ℕ → ℤ) (inner i j : ℕ)
    → ((k : ℕ) → entry_in base k j ≡ y k j)
    → item_times flipped parts (λ k. entry_in base k j) inner i ≡ product_entry inner (entry_turned flipped parts) y i j
columns_right flipped parts base y inner i j same =
    sum_to-same (λ k. entry_turned flipped parts i k *ℤ entry_in base k j)
    (λ k. entry_turned flipped parts i k *ℤ y k j) inner
    (λ k lt. ap (λ (z : ℤ). entry_turned flipped parts i k *ℤ z) (same k))

-- a column that is a row of a table times another
pub columns_left : (flipped : Bool) (parts base : List LayoutPart) (x : ℕ → ℕ → ℤ) (inner i j : ℕ)
    → ((k : ℕ) → entry_in base k i ≡ x i k)
    → item_times (not flipped) parts (λ k. entry_in base k i) inner j
    ≡ product_entry inner x (entry_turned flipped parts) i j
columns_left flipped parts base x inner i j same =
    sum_to-same (λ k. entry_turned (not flipped) parts j k *ℤ entry_in base k i)
    (λ k. x i k *ℤ entry_turned flipped parts k j) inner
    (λ k lt. ap (λ (z : ℤ). entry_turned (not flipped) parts j k *ℤ z) (same k)
    ∙ *ℤ_comm (entry_turned (not flipped) parts j k) (x i k)
    ∙ ap (λ (z : ℤ). x i k *ℤ z) (turned_back flipped parts j k))
