-- What holds of the tuples of columns.
use Rattle.std.specs.Prelude.{◌≡◌, ℕ, ◌<◌, ◌≤◌, List, ◌++◌, length, true, ◌↔◌}
use Rattle.cla_spec.specs.Matrix.{Matrix}
use Rattle.cla_layout.specs.Groups.{code_of, AreNumbered}
use Rattle.cla_layout.specs.Listed.{is_rest}
use Rattle.cla_grouping.specs.Tuples.{same_tuple, is_zero_row, tuples_in, joined}
use Rattle.cla_grouping.specs.Grouping.{grouping_of}
use Rattle.cla_grouping.specs.Partitions.{columns_in, ArePartitioned}

-- two rows have one code exactly where they have the same tuple
abbrev pub CodesTellTuples : Type 0
CodesTellTuples = (m : Matrix) (columns : List ℕ) (i j : ℕ) → i < m.rows → j < m.rows →
    (code_of (tuples_in m columns).codes i ≡ code_of (tuples_in m columns).codes j) ↔ (same_tuple m columns i j ≡ true)

-- a row has the zero code exactly where it has zeros alone
abbrev pub ZerosAreTold : Type 0
ZerosAreTold = (m : Matrix) (columns : List ℕ) (i : ℕ) → i < m.rows →
    is_rest (tuples_in m columns).zero (code_of (tuples_in m columns).codes i) ≡ is_zero_row m columns i

-- to join the tuples of two lists of columns is to ask the rows anew for both
abbrev pub JoinsAgree : Type 0
JoinsAgree = (m : Matrix) (first second : List ℕ) →
    joined (tuples_in m first) (tuples_in m second) ≡ tuples_in m (first ++ second)

-- codes number the tuples by first row
abbrev pub CodesAreNumbered : Type 0
CodesAreNumbered = (m : Matrix) (columns : List ℕ) →
    AreNumbered (tuples_in m columns).codes (tuples_in m columns).distinct

-- the groups of a cut part the columns of the matrix, and stand in the order of their first columns
abbrev pub CutsPartColumns : Type 0
CutsPartColumns = (m : Matrix) → 1 ≤ m.cols → ArePartitioned m.cols (columns_in (grouping_of m).groups)
