-- What holds of every whole layout.
use Rattle.std.specs.Prelude.{◌≡◌, ℕ, ℤ, pos, ◌*◌, ◌<◌, ◌≤◌, ◌+ℤ◌, ◌↔◌, List, [], ◌∷◌, length, take, Bool, true}
use Rattle.std.specs.Prelude.{Option, None, slice_index_or}
use Rattle.cla_spec.specs.Numbers.{sum_to}
use Rattle.cla_spec.specs.Matrix.{Matrix, IsShaped, IsWellMade, sum_of_entries}
use Rattle.cla_num.specs.declared.fault.What.{What}
use Rattle.cla_layout.specs.Groups.{cell_of, value_of, first_row_of}
use Rattle.cla_layout.specs.GroupLaws.{AreCodesOf}
use Rattle.cla_layout.specs.Layouts.{LayoutPart, Layout, StandsFor, IsWhole, column_at, part_at, entry_in, matrix_in}
use Rattle.cla_layout.specs.Layouts.{transposed, loose_layout}
use Rattle.cla_layout.specs.Firsts.{IsFirstOf, least_of, IsFirstFault, earliest_fault, IsExtremeEntry, IsReached}
use Rattle.cla_layout.specs.Values.{values_of, different_codes}

-- a value of each part, added up
abbrev pub sum_over : (LayoutPart → ℤ) → List LayoutPart → ℤ
sum_over f [] = pos 0
sum_over f (part ∷ parts) = f part +ℤ sum_over f parts

-- a whole layout stands for a matrix that is well made
abbrev pub LayoutsStand : Type 0
LayoutsStand = (bits : ℕ) (layout : Layout) → IsWhole bits layout → StandsFor layout (matrix_in layout)
    × IsWellMade bits (matrix_in layout)

-- and for no other
abbrev pub LayoutsStandForOne : Type 0
LayoutsStandForOne = (bits : ℕ) (layout : Layout) (m : Matrix) → IsWhole bits layout → IsShaped m.rows m.cols m.cells
    → StandsFor layout m → m ≡ matrix_in layout

-- a value of each column and the entry in it, added up over the columns of a row, is the same added up over the
-- places of
-- each part, and over the parts
abbrev pub RowsSumByParts : Type 0
RowsSumByParts = (bits : ℕ) (layout : Layout) (f : ℕ → ℤ → ℤ) (i : ℕ) → IsWhole bits layout →
    sum_to (λ j. f j (entry_in layout.parts i j)) layout.cols
    ≡ sum_over (λ part. sum_to (λ c. f (column_at part.columns c) (cell_of part.codes part.tuples i c))
    (length part.columns)) layout.parts

-- a value of each cell, added up over rows and columns, is the same added up over the rows and places of each part, and
-- over the parts
abbrev pub SumsByParts : Type 0
SumsByParts = (bits : ℕ) (layout : Layout) (f : ℕ → ℕ → ℤ → ℤ) → IsWhole bits layout →
    sum_of_entries layout.rows layout.cols (λ i j. f i j (entry_in layout.parts i j))
    ≡ sum_over (λ part. sum_of_entries layout.rows (length part.columns)
    (λ i c. f i (column_at part.columns c) (cell_of part.codes part.tuples i c))) layout.parts

-- and so is a sum over the rows and columns of the transpose
abbrev pub SumsTranspose : Type 0
SumsTranspose = (rows cols : ℕ) (entry : ℕ → ℕ → ℤ) → sum_of_entries rows cols entry
    ≡ sum_of_entries cols rows (λ j i. entry i j)

-- where a part has a value: the tuple's first row, and the column of the value's place
abbrev pub first_cell : (ℕ → ℕ → ℕ) → LayoutPart → ℕ → ℕ → ℕ
first_cell place part k c = place (first_row_of part.codes k) (column_at part.columns c)

-- the first place at which a value of a part fails, if one does; what fails may depend on the column
abbrev pub IsFirstOfPart : (ℕ → ℕ → ℕ) → (ℕ → ℤ → Bool) → LayoutPart → Option ℕ → Type 0
IsFirstOfPart place fails part first =
    IsFirstOf (length part.tuples) (length part.columns) (first_cell place part)
    (λ k c. fails (column_at part.columns c) (value_of part.tuples k c) ≡ true) first

-- The first cell that fails is the least of the first places of the parts, and none fails where none fails in any
-- part. The
-- order of the places is free, as long as a later row of the same column has no earlier place: so this holds of
-- tables and
-- of their transposes.
abbrev pub FirstPlacesByParts : Type 0
FirstPlacesByParts = (bits : ℕ) (layout : Layout) (place : ℕ → ℕ → ℕ) (fails : ℕ → ℤ → Bool)
    (firsts : List (Option ℕ)) → IsWhole bits layout →
    ((i r j : ℕ) → i ≤ r → place i j ≤ place r j) → length firsts ≡ length layout.parts →
    ((q : ℕ) → q < length layout.parts → IsFirstOfPart place fails (part_at layout.parts q)
    (slice_index_or firsts q None)) →
    IsFirstOf layout.rows layout.cols place (λ i j. fails j (entry_in layout.parts i j) ≡ true) (least_of firsts)

-- rows and columns exchanged
abbrev pub FirstPlacesTranspose : Type 0
FirstPlacesTranspose = (rows cols : ℕ) (place : ℕ → ℕ → ℕ) (fails : ℕ → ℕ → Bool) (first : Option ℕ) →
    IsFirstOf rows cols place (λ i j. fails i j ≡ true) first
    → IsFirstOf cols rows (λ j i. place i j) (λ j i. fails i j ≡ true) first

-- the first fault of a part: the place of a value is where its tuple's first row has its column
abbrev pub IsFirstFaultOfPart : {W : Type 0} → (ℕ → ℕ → W → ℕ) → (ℕ → ℤ → Option W) → LayoutPart → Option (ℕ × W)
    → Type 0
IsFirstFaultOfPart place fault part first = IsFirstFault (length part.tuples) (length part.columns)
    (λ k c w. place (first_row_of part.codes k) (column_at part.columns c) w)
    (λ k c. fault (column_at part.columns c) (value_of part.tuples k c)) first

-- the first fault is the first of those of the parts, and there is none where no part has one
abbrev pub FaultsByParts : Type 0
FaultsByParts = (bits : ℕ) (layout : Layout) (place : ℕ → ℕ → What → ℕ) (fault : ℕ → ℤ → Option What)
    (firsts : List (Option (ℕ × What))) → IsWhole bits layout →
    ((i r j : ℕ) (w : What) → i ≤ r → place i j w ≤ place r j w) → length firsts ≡ length layout.parts →
    ((q : ℕ) → q < length layout.parts → IsFirstFaultOfPart place fault (part_at layout.parts q)
    (slice_index_or firsts q None)) →
    IsFirstFault layout.rows layout.cols place (λ i j. fault j (entry_in layout.parts i j)) (earliest_fault firsts)

-- rows and columns exchanged
abbrev pub FaultsTranspose : Type 0
FaultsTranspose = (rows cols : ℕ) (place : ℕ → ℕ → What → ℕ) (fault : ℕ → ℕ → Option What)
    (first : Option (ℕ × What)) →
    IsFirstFault rows cols place fault first → IsFirstFault cols rows (λ j i. place i j) (λ j i. fault i j) first

-- v is a value of a tuple of a part, and stands before all of them: f gives the value of a column and an entry
pub record IsExtremeOfParts (Before : ℤ → ℤ → Type 0) (f : ℕ → ℤ → ℤ) (parts : List LayoutPart) (v : ℤ) : Type 0 where
  pub reached : (q : ℕ) × (q < length parts) × IsReached f (part_at parts q) v
  pub before : (q k c : ℕ) → q < length parts → k < length (part_at parts q).tuples
      → c < length (part_at parts q).columns →
      Before v (f (column_at (part_at parts q).columns c) (value_of (part_at parts q).tuples k c))

-- the least or the greatest entry is that of the tuples of all parts
abbrev pub ExtremesByParts : Type 0
ExtremesByParts = (bits : ℕ) (layout : Layout) (before : ℤ → ℤ → Bool) (f : ℕ → ℤ → ℤ) (v : ℤ) → IsWhole bits layout →
    IsExtremeEntry (λ x y. before x y ≡ true) layout.rows layout.cols (λ i j. f j (entry_in layout.parts i j)) v
    ↔ IsExtremeOfParts (λ x y. before x y ≡ true) f layout.parts v

-- rows and columns exchanged
abbrev pub ExtremesTranspose : Type 0
ExtremesTranspose = (before : ℤ → ℤ → Bool) (rows cols : ℕ) (entry : ℕ → ℕ → ℤ) (v : ℤ) →
    IsExtremeEntry (λ x y. before x y ≡ true) rows cols entry v
    → IsExtremeEntry (λ x y. before x y ≡ true) cols rows (λ j i. entry i j) v

-- the values of the first parts of a layout are no more than its cells
abbrev pub ValuesAreFew : Type 0
ValuesAreFew = (bits : ℕ) (layout : Layout) (q : ℕ) → IsWhole bits layout
    → values_of (take q layout.parts) ≤ layout.rows * layout.cols

-- a group has as many tuples as different codes
abbrev pub CodesCountTuples : Type 0
CodesCountTuples = (n : ℕ) (codes : List ℕ) → AreCodesOf n codes → different_codes codes ≡ n

-- the transpose of the transpose is the matrix
abbrev pub TransposedTwice : Type 0
TransposedTwice = (m : Matrix) → IsShaped m.rows m.cols m.cells → transposed (transposed m) ≡ m

-- a matrix as one group of all columns stands for the matrix
abbrev pub LooseStands : Type 0
LooseStands = (m : Matrix) → IsShaped m.rows m.cols m.cells → matrix_in (loose_layout m) ≡ m
