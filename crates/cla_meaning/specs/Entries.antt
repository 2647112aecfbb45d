-- The exact entries of the operators, over the entries of their operands. None is a division by zero.
use Rattle.std.specs.Prelude.{ℕ, ℤ, ◌-◌, ◌*ℤ◌, Option, if◌then◌else◌, nat_lt}
use Rattle.cla_spec.specs.Numbers.{sum_to}
use Rattle.cla_num.specs.Cells.{cell_value}
use Rattle.cla_num.specs.declared.cell_op.CellOp.{CellOp}

-- the entry in row i and column j of an operand, and of a result
abbrev pub Entry : Type 0
Entry = ℕ → ℕ → ℤ

abbrev pub ExactEntry : Type 0
ExactEntry = ℕ → ℕ → Option ℤ

-- `a op b` of equal shapes
abbrev pub cellwise_entry : CellOp → Entry → Entry → ExactEntry
cellwise_entry op a b i j = cell_value op (a i j) (b i j)

-- `a op b` where b has one row
abbrev pub broadcast_entry : CellOp → Entry → (ℕ → ℤ) → ExactEntry
broadcast_entry op a row i j = cell_value op (a i j) (row j)

-- the product of a and b, where a has `inner` columns
abbrev pub product_entry : ℕ → Entry → Entry → Entry
product_entry inner a b i j = sum_to (λ k. a i k *ℤ b k j) inner

-- the transpose of a, times a, where a has so many rows
abbrev pub self_product_entry : ℕ → Entry → Entry
self_product_entry rows a i j = sum_to (λ k. a k i *ℤ a k j) rows

-- the sums of rows, as one column, and of columns, as one row
abbrev pub row_sum : ℕ → Entry → ℕ → ℤ
row_sum cols a i = sum_to (a i) cols

abbrev pub row_sums_entry : ℕ → Entry → Entry
row_sums_entry cols a i j = row_sum cols a i

abbrev pub col_sum : ℕ → Entry → ℕ → ℤ
col_sum rows a j = sum_to (λ i. a i j) rows

abbrev pub col_sums_entry : ℕ → Entry → Entry
col_sums_entry rows a i j = col_sum rows a j

-- a and b side by side, where a has `cols` columns, and one above the other, where a has `rows` rows
abbrev pub beside_entry : ℕ → Entry → Entry → Entry
beside_entry cols a b i j = if nat_lt j cols then a i j else b i (j - cols)

abbrev pub above_entry : ℕ → Entry → Entry → Entry
above_entry rows a b i j = if nat_lt i rows then a i j else b (i - rows) j
