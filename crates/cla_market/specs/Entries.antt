-- Entry lines: each gives a triple, a cell and a value, and a triple is added to the matrix with its mirror image.
use Rattle.std.specs.Prelude.{ℕ, ℤ, pos, negsuc, neg_ℤ, ◌+◌, ◌-◌, ◌+ℤ◌, List, [], ◌∷◌, map, Bool, false, ◌&&◌, ◌==◌}
use Rattle.std.specs.Prelude.{not, nat_lt, Option, Some, None, Result, Ok, Err, if◌then◌else◌, slice_index_or}
use Rattle.std.specs.List.{range_with_len, flat_map}
use Rattle.cla_spec.specs.Numbers.{in_range}
use Rattle.cla_text.specs.declared.integer.BadInt.{BadInt}
use Rattle.cla_text.specs.declared.integer.BadInt.TheVariants.{Form, Wide}
use Rattle.cla_text.specs.Integers.{int_of}
use Rattle.cla_market.specs.declared.banner.Format.{Format}
use Rattle.cla_market.specs.declared.banner.Format.TheVariants.{Coordinate, Array}
use Rattle.cla_market.specs.declared.banner.Field.{Field}
use Rattle.cla_market.specs.declared.banner.Field.TheVariants.{Integer, Pattern}
use Rattle.cla_market.specs.declared.banner.Symmetry.{Symmetry}
use Rattle.cla_market.specs.declared.banner.Symmetry.TheVariants.{General, Symmetric, SkewSymmetric}
use Rattle.cla_market.specs.declared.banner.Banner.{Banner}
use Rattle.cla_market.specs.declared.size.Size.{Size}
use Rattle.cla_market.specs.declared.fault.LineFault.{LineFault}
use Rattle.cla_market.specs.declared.fault.LineFault.TheVariants as faults
use Rattle.cla_market.specs.Results.{◌>>=◌, one_of, two_of, three_of}

-- a value at a cell; rows and columns count from 0
pub record Triple : Type 0 where
  pub row : ℕ
  pub col : ℕ
  pub value : ℤ

-- a word of the form of an integer, with its value unless that is too wide
abbrev pub number_or_fault : Result ℤ BadInt → Result (Option ℤ) LineFault
number_or_fault (Ok v) = Ok (Some v)
number_or_fault (Err Wide) = Ok None
number_or_fault (Err Form) = Err faults.Entry

abbrev pub number_in : List ℕ → Result (Option ℤ) LineFault
number_in word = number_or_fault (int_of word)

-- an index from 1 to most, counted from 0
abbrev pub index_of : Option ℤ → ℕ → Result ℕ LineFault
index_of None most = Err faults.Index
index_of (Some (negsuc n)) most = Err faults.Index
index_of (Some (pos n)) most = if nat_lt 0 n && nat_lt (n - 1) most then Ok (n - 1) else Err faults.Index

abbrev pub is_zero : Option ℤ → Bool
is_zero None = false
is_zero (Some (pos n)) = n == 0
is_zero (Some (negsuc n)) = false

-- the diagonal of a skew-symmetric matrix is 0
abbrev pub diagonal_in : Symmetry → ℕ → ℕ → Option ℤ → Result (Unit {0}) LineFault
diagonal_in General row col value = Ok tt
diagonal_in Symmetric row col value = Ok tt
diagonal_in SkewSymmetric row col value = if row == col && not (is_zero value) then Err faults.Diagonal else Ok tt

abbrev pub value_of : ℕ → Option ℤ → Result ℤ LineFault
value_of bits None = Err faults.Range
value_of bits (Some v) = if in_range bits v then Ok v else Err faults.Range

abbrev pub coordinate_entry : ℕ → Symmetry → ℕ → ℕ → Option (List ℕ × List ℕ × List ℕ) → Result Triple LineFault
coordinate_entry bits mirroring rows cols None = Err faults.Entry
coordinate_entry bits mirroring rows cols (Some w) = do
  row ← number_in w.0
  col ← number_in w.1
  value ← number_in w.2
  i ← index_of row rows
  j ← index_of col cols
  diagonal ← diagonal_in mirroring i j value
  v ← value_of bits value
  Ok record { row = i; col = j; value = v }

abbrev pub pattern_entry : ℕ → ℕ → Option (List ℕ × List ℕ) → Result Triple LineFault
pattern_entry rows cols None = Err faults.Entry
pattern_entry rows cols (Some w) = do
  row ← number_in w.0
  col ← number_in w.1
  i ← index_of row rows
  j ← index_of col cols
  Ok record { row = i; col = j; value = pos 1 }

abbrev pub array_entry : ℕ → ℕ × ℕ → Option (List ℕ) → Result Triple LineFault
array_entry bits cell None = Err faults.Entry
array_entry bits cell (Some w) = do
  value ← number_in w
  v ← value_of bits value
  Ok record { row = cell.0; col = cell.1; value = v }

-- the first row of a column that an array file gives
abbrev pub first_row : Symmetry → ℕ → ℕ
first_row General col = 0
first_row Symmetric col = col
first_row SkewSymmetric col = col + 1

abbrev pub column_cells : ℕ → ℕ → ℕ → List (ℕ × ℕ)
column_cells first rows col = map (λ i. (i, col)) (range_with_len first (rows - first))

-- the cells of an array file's entries, column by column
abbrev pub array_cells : Symmetry → ℕ → ℕ → List (ℕ × ℕ)
array_cells mirroring rows cols = flat_map (λ col. column_cells (first_row mirroring col) rows col)
    (range_with_len 0 cols)

-- the cell of the n-th entry of an array file, from 0
abbrev pub array_cell : Symmetry → Size → ℕ → ℕ × ℕ
array_cell mirroring size n = slice_index_or (array_cells mirroring size.rows size.cols) n (0, 0)

abbrev pub entry_from : ℕ → Format → Field → Symmetry → Size → ℕ → List (List ℕ) → Result Triple LineFault
entry_from bits Coordinate Integer mirroring size n words = coordinate_entry bits mirroring size.rows size.cols
    (three_of words)
entry_from bits Coordinate Pattern mirroring size n words = pattern_entry size.rows size.cols (two_of words)
entry_from bits Array field mirroring size n words = array_entry bits (array_cell mirroring size n) (one_of words)

-- what the words of the n-th entry line say, from 0
unfoldable pub entry_in : ℕ → Banner → Size → ℕ → List (List ℕ) → Result Triple LineFault
entry_in bits banner size n words = entry_from bits banner.format banner.field banner.symmetry size n words

-- the cell on the other side of the diagonal
abbrev pub mirrored : Triple → ℤ → Triple
mirrored t value = record { row = t.col; col = t.row; value = value }

-- what a triple adds
abbrev pub added_by : Symmetry → Triple → List Triple
added_by General t = t ∷ []
added_by Symmetric t = if t.row == t.col then t ∷ [] else t ∷ mirrored t t.value ∷ []
added_by SkewSymmetric t = t ∷ mirrored t (neg_ℤ t.value) ∷ []

-- what all triples add, mirrored ones included
abbrev pub entries_added : Symmetry → List Triple → List Triple
entries_added mirroring ts = flat_map (added_by mirroring) ts

abbrev pub value_at : Triple → ℕ → ℕ → ℤ
value_at t i j = if t.row == i && t.col == j then t.value else pos 0

-- the sum of the values at a cell
abbrev pub sum_at : List Triple → ℕ → ℕ → ℤ
sum_at [] i j = pos 0
sum_at (t ∷ ts) i j = value_at t i j +ℤ sum_at ts i j
