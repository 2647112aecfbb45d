-- Tables of sums that hold the sums of triples.
use Rattle.std.specs.Prelude.{◌≡◌, ℕ, ◌<◌, ◌+ℤ◌, List, Bool, false}
use Rattle.std.specs.List.{list_all}
use Rattle.cla_spec.specs.Matrix.{Matrix, entry}
use Rattle.cla_spec.specs.Numbers.{InRange, in_range}
use Rattle.cla_market.specs.Entries.{Triple, sum_at}
use Rattle.cla_table.specs.declared.fault.TableFault.{TableFault}
use Rattle.cla_table.specs.declared.fault.TableFault.TheVariants.{OutOfRange, Memory}

-- every entry is in range
abbrev pub AreInRange : ℕ → Matrix → Type 0
AreInRange bits m = (i j : ℕ) → i < m.rows → j < m.cols → InRange bits (entry m i j)

-- every entry grew by the sum of these triples at its cell
pub record AddsAll (old new : Matrix) (ts : List Triple) : Type 0 where
  pub same_rows : new.rows ≡ old.rows
  pub same_cols : new.cols ≡ old.cols
  pub grown : (i j : ℕ) → i < old.rows → j < old.cols → entry new i j ≡ entry old i j +ℤ sum_at ts i j

-- each sum that these triples change is in range with all of them
abbrev pub all_fit : ℕ → Matrix → List Triple → Bool
all_fit bits old ts = list_all (λ (a : Triple). in_range bits (entry old a.row a.col +ℤ sum_at ts a.row a.col)) ts

-- triples aren't added: one of the sums isn't in range, or memory is wanting
abbrev pub HasSumCause : ℕ → Matrix → List Triple → TableFault → Type 0
HasSumCause bits old ts (OutOfRange sum) = all_fit bits old ts ≡ false
HasSumCause bits old ts Memory = Unit {0}

-- a table has the sums of these triples
pub record HasSums (table : Matrix) (ts : List Triple) : Type 0 where
  pub at : (i j : ℕ) → i < table.rows → j < table.cols → entry table i j ≡ sum_at ts i j
