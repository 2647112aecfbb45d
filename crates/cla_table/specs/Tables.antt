-- Tables of sums, as contracts see them: the matrix of the sums.
use Rattle.std.specs.Prelude.{◌≡◌, ℕ, ℤ, pos, ◌<◌, ◌+ℤ◌, ◌==◌, ◌&&◌, if◌then◌else◌}
use Rattle.cla_spec.specs.Numbers.{InRange}
use Rattle.cla_table.specs.declared.fault.TableFault.{TableFault}
use Rattle.cla_table.specs.declared.fault.TableFault.TheVariants.{OutOfRange, Memory}
use Rattle.cla_spec.specs.Matrix.{Matrix, entry, row_by_row}

-- all sums 0
abbrev pub zero_table : ℕ → ℕ → Matrix
zero_table rows cols = record { rows = rows; cols = cols; cells = row_by_row rows cols (λ i j. pos 0) }

-- v at one cell, and 0 elsewhere
abbrev pub value_at : ℕ → ℕ → ℤ → ℕ → ℕ → ℤ
value_at row col v i j = if row == i && col == j then v else pos 0

-- the sum at one cell grew by v, and no other changed
pub record Adds (old new : Matrix) (row col : ℕ) (v : ℤ) : Type 0 where
  pub same_rows : new.rows ≡ old.rows
  pub same_cols : new.cols ≡ old.cols
  pub grown : (i j : ℕ) → i < old.rows → j < old.cols → entry new i j ≡ entry old i j +ℤ value_at row col v i j

-- a triple isn't added: this sum isn't in range, or memory is wanting
abbrev pub HasCause : ℕ → ℤ → TableFault → Type 0
HasCause bits sum (OutOfRange s) = (s ≡ sum) × (InRange bits sum → ⊥)
HasCause bits sum Memory = Unit {0}
