-- Tables, and what operators on them say of the matrices for which they stand.
use Rattle.std.proofs.Common.{◌≡◌, ℕ, ℤ, zero, suc, pos, ◌+◌, ◌*◌, ◌<◌, ◌≤◌, ◌*ℤ◌, List, [], ◌∷◌, length, map, get_or}
use Rattle.std.proofs.Common.{refl, ap, sym, subst, ◌∙◌, arith}
use Rattle.std.proofs.Common.{Bool, true, false, Option, Some, None, Result, Err}
use Rattle.std.proofs.Math.Nat.{mul-le-mul}
use Rattle.std.specs.List.{range_with_len}
use Rattle.std.proofs.lemmas.Bool.{lt-ltb}
use Rattle.std.proofs.lemmas.List.{length-map}
use Rattle.cla_check.specs.Scripts.{IsInLimits}
use Rattle.cla_spec.specs.Matrix.{Matrix, entry, most_cells, row_by_row, IsShaped, sum_of_entries, exact_sum}
use Rattle.cla_spec.specs.Matrix.{scaled_entry, scaled}
use Rattle.cla_spec.proofs.Sums.{sum_of_entries-same}
use Rattle.cla_spec.proofs.Entries.{row_by_row-entry, row_by_row-same}
use Rattle.cla_num.specs.Fault.{fault_of, first_fault_from, or_else, cell_fault, exactly}
use Rattle.cla_num.specs.declared.fault.OpFault.{OpFault}
use Rattle.cla_num.specs.declared.fault.What.{What}
use Rattle.cla_num.specs.declared.fault.Refused.{Refused}
use Rattle.cla_num.specs.declared.fault.Refused.TheVariants.{Op, Memory}
use Rattle.cla_num.specs.Counts.{Counts}
use Rattle.cla_num.proofs.Faults.{fault_of-same}
use Rattle.cla_layout.specs.Groups.{code_of, cell_of, GroupStandsFor, IsGroup}
use Rattle.cla_layout.specs.Layouts.{Layout, LayoutPart, IsWhole, IsPart, part_at, index_of, entry_in, entry_as}
use Rattle.cla_layout.specs.Layouts.{matrix_in, matrix_as, loose_layout}
use Rattle.cla_layout.specs.Values.{values_of}
use Rattle.cla_layout.proofs.Counting.{rows_count, code_is, first_row_is}
use Rattle.cla_layout.proofs.Cells.{tuples_few}
use Rattle.cla_layout.proofs.Matrices.{entry_matrix_in}
use Rattle.cla_layout.proofs.Loose.{loose_stands}
use Rattle.cla_layout.proofs.Wholes.{same_width}
use Rattle.cla_coded.specs.declared.part.Part.{Part}
use Rattle.cla_coded.specs.Parts.{part_of, parts_of}
use Rattle.cla_coded.specs.Tables.{TableOf, layout_of, matrix_of, table_entry, rows_of_table, cols_of_table}
use Rattle.cla_coded.specs.Skeletons.{SkeletonOf, skeleton_of, part_skeleton_of, PartSkeletonOf}
use Rattle.cla_map.specs.declared.step.Step.{Step}
use Rattle.cla_map.specs.Steps.{step_cell}
use Rattle.cla_map.specs.Answers.{rows_as, cols_as, IsMappedTo, MapsTable}
use Rattle.cla_meaning.specs.Chains.{StepValue, at_step, chain_fault, chain_value}
use Rattle.cla_meaning.specs.Counts.{HasMapsUpTo}
use Rattle.cla_print.specs.Texts.{rows_text, matrix_text}
use Rattle.cla_print.proofs.TextLaws.{group_text}
use Rattle.cla_cli.specs.Statements.{product_fault}
use Rattle.cla_cli.specs.Evaluate.{FewMore, operator_most}
use Rattle.cla_cli.specs.Tables.{IsLoose, AnswersProduct}

-- a table of this shape with these entries stands for the matrix
record Shows (r c : ℕ) (e : ℕ → ℕ → ℤ) (m : Matrix) : Type 0 where
  rows : r ≡ m.rows
  cols : c ≡ m.cols
  entries : (i j : ℕ) → i < m.rows → j < m.cols → e i j ≡ entry m i j

shows_as : (flipped : Bool) (layout : Layout)
    → Shows (rows_as flipped layout) (cols_as flipped layout) (entry_as flipped layout) (matrix_as flipped layout)
shows_as false layout = record {
  rows = refl;
  cols = refl;
  entries = λ i j row col. sym (entry_matrix_in layout i j row col);
}
shows_as true layout = record {
  rows = refl;
  cols = refl;
  entries = λ i j row col.
      sym (row_by_row-entry layout.cols layout.rows (λ i j. entry (matrix_in layout) j i) i j row col
      ∙ entry_matrix_in layout j i col row);
}

-- and the matrix is the one with its entries
matrix_is : (flipped : Bool) (layout : Layout) (m : Matrix) (e : ℕ → ℕ → ℤ) → 1 ≤ layout.rows → 1 ≤ layout.cols
    → rows_as flipped layout ≡ m.rows → cols_as flipped layout ≡ m.cols
    → m.cells ≡ row_by_row m.rows m.cols e
    → ((i j : ℕ) → i < m.rows → j < m.cols → entry_as flipped layout i j ≡ e i j) → matrix_as flipped layout ≡ m
matrix_is false layout m e a_row a_col rows cols cells same =
    let all : row_by_row layout.rows layout.cols (entry_in layout.parts) ≡ m.cells =
    rw (rows, cols) (row_by_row-same m.rows m.cols (entry_in layout.parts) e (pos 0) (rw cols at a_col) same
    ∙ sym cells) in
    rw (all, rows, cols) refl
matrix_is true layout m e a_row a_col rows cols cells same =
    let all : row_by_row layout.cols layout.rows (λ i j. entry (matrix_in layout) j i) ≡ m.cells =
    row_by_row-same layout.cols layout.rows (λ i j. entry (matrix_in layout) j i) e (pos 0) a_row
    (λ i j row col. entry_matrix_in layout j i col row ∙ same i j (rw (sym rows) row) (rw (sym cols) col))
    ∙ rw (rows, cols) (sym cells) in
    rw (all, rows, cols) refl

-- the sum of a table is that of its matrix
pub sum_is : (flipped : Bool) (layout : Layout) (m : Matrix) → matrix_as flipped layout ≡ m
    → sum_of_entries (rows_as flipped layout) (cols_as flipped layout) (entry_as flipped layout) ≡ exact_sum m
sum_is flipped layout m is =
    let shows = subst (Shows (rows_as flipped layout) (cols_as flipped layout) (entry_as flipped layout)) is
    (shows_as flipped layout) in
    rw (shows.rows, shows.cols) (sum_of_entries-same m.rows m.cols (entry_as flipped layout) (entry m) shows.entries)

zero_or : (later : Option OpFault) (what : Option What) (cols place : ℕ) → at_step 0 later None ≡ later
    → at_step 0 (or_else later what cols place) None ≡ or_else later what cols place
zero_or later None cols place same = same
zero_or later (Some what) cols place same = refl

-- a fault that no step names is one of step 0
step_zero : (bits cols place : ℕ) (cells : List (Option ℤ)) →
    at_step 0 (first_fault_from bits cols place cells) None ≡ first_fault_from bits cols place cells
step_zero bits cols place [] = refl
step_zero bits cols place (cell ∷ cells) =
    zero_or (first_fault_from bits cols (place + 1) cells) (cell_fault bits cell) cols place
    (step_zero bits cols (place + 1) cells)

-- the fault of its product is that of the matrix
pub fault_is : (bits : ℕ) (flipped : Bool) (layout : Layout) (m : Matrix) (k : ℤ) → 1 ≤ cols_as flipped layout
    → matrix_as flipped layout ≡ m
    → at_step 0 (fault_of bits (rows_as flipped layout) (cols_as flipped layout)
    (exactly (scaled_entry (entry_as flipped layout) k))) None
    ≡ product_fault bits m k
fault_is bits flipped layout m k some is =
    let shows = subst (Shows (rows_as flipped layout) (cols_as flipped layout) (entry_as flipped layout)) is
    (shows_as flipped layout) in
    step_zero bits (cols_as flipped layout) 0 (row_by_row (rows_as flipped layout) (cols_as flipped layout)
    (exactly (scaled_entry (entry_as flipped layout) k)))
    ∙ rw (shows.rows, shows.cols) (fault_of-same bits m.rows m.cols (scaled_entry (entry_as flipped layout) k)
    (scaled_entry (entry m) k)
    (rw shows.cols at some) (λ i j row col. ap (λ (v : ℤ). v *ℤ k) (shows.entries i j row col)))

as_rows : (flipped : Bool) (new layout : Layout) → new.rows ≡ layout.rows → new.cols ≡ layout.cols
    → rows_as flipped new ≡ rows_as flipped layout
as_rows true new layout rows cols = cols
as_rows false new layout rows cols = rows

as_cols : (flipped : Bool) (new layout : Layout) → new.rows ≡ layout.rows → new.cols ≡ layout.cols
    → cols_as flipped new ≡ cols_as flipped layout
as_cols true new layout rows cols = rows
as_cols false new layout rows cols = cols

-- a table of the same shape with the products stands for the product of the matrix
pub product_is : (flipped : Bool) (layout : Layout) (m : Matrix) (k : ℤ) (new : Layout) → 1 ≤ new.rows → 1 ≤ new.cols
    → matrix_as flipped layout ≡ m → new.rows ≡ layout.rows → new.cols ≡ layout.cols
    → ((i j : ℕ) → i < rows_as flipped layout → j < cols_as flipped layout
    → entry_as flipped new i j ≡ entry_as flipped layout i j *ℤ k) → matrix_as flipped new ≡ scaled m k
product_is flipped layout m k new a_row a_col is rows cols same =
    let shows = subst (Shows (rows_as flipped layout) (cols_as flipped layout) (entry_as flipped layout)) is
    (shows_as flipped layout) in
    matrix_is flipped new (scaled m k) (scaled_entry (entry m) k) a_row a_col
    (as_rows flipped new layout rows cols ∙ shows.rows) (as_cols flipped new layout rows cols ∙ shows.cols) refl
    (λ i j row col. same i j (rw shows.rows row) (rw shows.cols col)
    ∙ ap (λ (v : ℤ). v *ℤ k) (shows.entries i j row col))

-- the shape of a group is within the limits of a matrix
pub limits_of : (rows cols : ℕ) → 1 ≤ rows → 1 ≤ cols → rows * cols ≤ most_cells →
    IsInLimits (record { rows = rows; cols = cols })
limits_of rows cols a_row a_col few =
    let by_rows : rows * 1 ≤ rows * cols = mul-le-mul {n₁ = rows} {m₁ = 1} {n₂ = rows} {m₂ = cols} (omega arith) a_col
    in
    let by_cols : 1 * cols ≤ rows * cols = mul-le-mul {n₁ = 1} {m₁ = cols} {n₂ = rows} {m₂ = cols} a_row (omega arith)
    in
    record {
      rows = (a_row, omega (arith, by_rows, few));
      cols = (a_col, omega (arith, by_cols, few));
      cells = omega (arith, few);
    }

-- the parts of a skeleton, of the parts as contracts see them
abbrev pub part_skeleton_in : LayoutPart → PartSkeletonOf
part_skeleton_in part = record { columns = part.columns; codes = part.codes }

skeletons_in : {G : Type 0} (codes : G → List ℕ) (dictionary : G → List (List ℤ)) (parts : List (Part G))
    → map (part_skeleton_of codes) parts ≡ map part_skeleton_in (parts_of codes dictionary parts)
skeletons_in codes dictionary [] = refl
skeletons_in codes dictionary (part ∷ parts) =
    ap (λ (rest : List PartSkeletonOf). part_skeleton_of codes part ∷ rest) (skeletons_in codes dictionary parts)

-- the table of a loose layout is loose
pub loose_is : {G : Type 0} (codes : G → List ℕ) (dictionary : G → List (List ℤ)) (t : TableOf G) (m : Matrix)
    → layout_of codes dictionary t ≡ loose_layout m → t.flipped ≡ false → IsLoose (skeleton_of codes t)
loose_is codes dictionary t m is flat =
    let rows : t.rows ≡ m.rows = ap (λ (l : Layout). l.rows) is in
    let cols : t.cols ≡ m.cols = ap (λ (l : Layout). l.cols) is in
    let parts = skeletons_in codes dictionary t.parts ∙ ap (λ (l : Layout). map part_skeleton_in l.parts) is in
    rw (flat, parts, rows, cols) refl

-- its one part
pub record OnePart {G : Type 0} (codes : G → List ℕ) (t : TableOf G) : Type 0 where
  pub part : Part G
  pub only : t.parts ≡ part ∷ []
  pub columns_are : part.columns.items ≡ range_with_len 0 t.cols
  pub codes_are : codes part.group ≡ range_with_len 0 t.rows

no_skeleton : PartSkeletonOf
no_skeleton = record { columns = []; codes = [] }

one_of : {G : Type 0} (codes : G → List ℕ) (parts : List (Part G)) (rows cols : ℕ)
    → map (part_skeleton_of codes) parts ≡ record { columns = range_with_len 0 cols; codes = range_with_len 0 rows }
    ∷ []
    → (part : Part G) × (parts ≡ part ∷ []) × (part.columns.items ≡ range_with_len 0 cols)
    × (codes part.group ≡ range_with_len 0 rows)
one_of codes [] rows cols is = cc
one_of codes (part ∷ []) rows cols is = (
  part,
  refl,
  ap (λ (l : List PartSkeletonOf). (get_or l 0 no_skeleton).columns) is,
  ap (λ (l : List PartSkeletonOf). (get_or l 0 no_skeleton).codes) is,
)
one_of codes (part ∷ other ∷ parts) rows cols is = cc

pub one_part : {G : Type 0} (codes : G → List ℕ) (t : TableOf G) → IsLoose (skeleton_of codes t) → OnePart codes t
one_part codes t loose =
    let found = one_of codes t.parts t.rows t.cols (ap (λ (s : SkeletonOf). s.parts) loose) in
    record { part = found.0; only = found.1; columns_are = found.2; codes_are = found.3 }

pub is_flat : {G : Type 0} (codes : G → List ℕ) (t : TableOf G) → IsLoose (skeleton_of codes t) → t.flipped ≡ false
is_flat codes t loose = ap (λ (s : SkeletonOf). s.flipped) loose

-- a group with a code of its own for each row has as many tuples
as_many : (bits width rows : ℕ) (codes : List ℕ) (tuples : List (List ℤ)) → IsGroup bits width codes tuples
    → codes ≡ range_with_len 0 rows → length tuples ≡ rows
as_many bits width zero codes tuples is codes_are =
    absurd (omega (arith, is.a_row, ap (λ (cs : List ℕ). length cs) codes_are, rows_count 0))
as_many bits width (suc n) codes tuples is codes_are =
    let few = tuples_few bits width codes tuples is in
    let count : length codes ≡ suc n = ap (λ (cs : List ℕ). length cs) codes_are ∙ rows_count (suc n) in
    let last : code_of codes n ≡ n = ap (λ (cs : List ℕ). code_of cs n) codes_are ∙ code_is (suc n) n (omega arith) in
    let there = is.in_tuples n (omega (arith, count)) in
    omega (arith, few, count, last, there)

-- a loose table has as many values as the matrix has cells
pub values_are : {G : Type 0} (bits : ℕ) (codes : G → List ℕ) (dictionary : G → List (List ℤ)) (t : TableOf G)
    → IsLoose (skeleton_of codes t) → IsWhole bits (layout_of codes dictionary t)
    → values_of (parts_of codes dictionary t.parts) ≡ t.rows * t.cols
values_are bits codes dictionary t loose whole =
    let one = one_part codes t loose in
    let is : IsPart bits t.rows (part_of codes dictionary one.part) =
    subst (λ (ps : List (Part _)). IsPart bits t.rows (part_at (parts_of codes dictionary ps) 0)) one.only
    (whole.each 0 (rw one.only (omega arith))) in
    let tuples : length (dictionary one.part.group) ≡ t.rows = as_many bits _ t.rows _ _ is.group one.codes_are in
    let columns : length one.part.columns.items ≡ t.cols = ap (λ (cs : List ℕ). length cs) one.columns_are
    ∙ rows_count t.cols in
    rw (one.only, tuples, columns) (omega arith)

-- the entries of one part of all columns, in their order
one_entry : (part : LayoutPart) (cols i j : ℕ) → part.columns ≡ range_with_len 0 cols → j < cols
    → entry_in (part ∷ []) i j ≡ cell_of part.codes part.tuples i j
one_entry part cols i j are col =
    let index : index_of part.columns j ≡ j = ap (λ (cs : List ℕ). index_of cs j) are ∙ first_row_is cols j col in
    let count : length part.columns ≡ cols = ap (λ (cs : List ℕ). length cs) are ∙ rows_count cols in
    let there : index_of part.columns j < length part.columns = omega (arith, index, col, count) in
    rw (lt-ltb (index_of part.columns j) (length part.columns) there, index) refl

-- its group stands for the matrix
pub one_stands : {G : Type 0} (bits width : ℕ) (codes : G → List ℕ) (dictionary : G → List (List ℤ)) (t : TableOf G)
    → IsLoose (skeleton_of codes t) → IsWhole bits (layout_of codes dictionary t)
    → (one : OnePart codes t) → IsGroup bits width (codes one.part.group) (dictionary one.part.group)
    → GroupStandsFor width (codes one.part.group) (dictionary one.part.group) (matrix_of codes dictionary t)
one_stands bits width codes dictionary t loose whole one law =
    let flat = is_flat codes t loose in
    let layout = layout_of codes dictionary t in
    let shows = shows_as t.flipped layout in
    let is : IsPart bits t.rows (part_of codes dictionary one.part) =
    subst (λ (ps : List (Part _)). IsPart bits t.rows (part_at (parts_of codes dictionary ps) 0)) one.only
    (whole.each 0 (rw one.only (omega arith))) in
    let rows : rows_as t.flipped layout ≡ t.rows = rw flat refl in
    let cols : cols_as t.flipped layout ≡ t.cols = rw flat refl in
    let columns : length one.part.columns.items ≡ t.cols = ap (λ (cs : List ℕ). length cs) one.columns_are
    ∙ rows_count t.cols in
    record {
      rows = ap (λ (cs : List ℕ). length cs) one.codes_are ∙ rows_count t.rows ∙ sym rows ∙ shows.rows;
      cols = same_width bits width _ _ _ law is.group ∙ columns ∙ sym cols ∙ shows.cols;
      entries = λ i c row col.
          (let here : entry_as t.flipped layout i c ≡ cell_of (codes one.part.group) (dictionary one.part.group) i c =
          rw (flat, one.only) (one_entry (part_of codes dictionary one.part) t.cols i c one.columns_are
          (rw (sym cols, shows.cols) col)) in
          sym here ∙ shows.entries i c row col);
    }

-- and its text is that of the matrix
pub text_is : {G : Type 0} (bits width : ℕ) (codes : G → List ℕ) (dictionary : G → List (List ℤ)) (t : TableOf G)
    (g : G)
    → IsLoose (skeleton_of codes t) → IsWhole bits (layout_of codes dictionary t)
    → (one : OnePart codes t) → one.part.group ≡ g → IsGroup bits width (codes g) (dictionary g)
    → rows_text (length (codes g)) width (cell_of (codes g) (dictionary g)) ≡ matrix_text (matrix_of codes dictionary t)
text_is bits width codes dictionary t g loose whole one same law =
    let own = subst (λ (x : _). IsGroup bits width (codes x) (dictionary x)) (sym same) law in
    subst (λ (x : _). rows_text (length (codes x)) width (cell_of (codes x) (dictionary x))
    ≡ matrix_text (matrix_of codes dictionary t)) same
    (group_text width (codes one.part.group) (dictionary one.part.group) (matrix_of codes dictionary t)
    (one_stands bits width codes dictionary t loose whole one own))

-- the values of a loose table are as many as the cells of its matrix
pub cells_are : {G : Type 0} (bits : ℕ) (codes : G → List ℕ) (dictionary : G → List (List ℤ)) (t : TableOf G)
    (m : Matrix)
    → IsLoose (skeleton_of codes t) → IsWhole bits (layout_of codes dictionary t) → matrix_of codes dictionary t ≡ m
    → values_of (parts_of codes dictionary t.parts) ≡ m.rows * m.cols
cells_are bits codes dictionary t m loose whole is =
    subst (λ (x : Matrix). values_of (parts_of codes dictionary t.parts) ≡ x.rows * x.cols) is
    (rw (is_flat codes t loose) (values_are bits codes dictionary t loose whole))

-- and are few
pub cells_few : {G : Type 0} (bits : ℕ) (codes : G → List ℕ) (dictionary : G → List (List ℤ)) (t : TableOf G)
    → IsLoose (skeleton_of codes t) → IsWhole bits (layout_of codes dictionary t)
    → values_of (parts_of codes dictionary t.parts) ≤ most_cells
cells_few bits codes dictionary t loose whole = rw (values_are bits codes dictionary t loose whole) whole.few

pub few_maps : (n : ℕ) (before now : Counts) → n ≤ most_cells → HasMapsUpTo n before now →
    FewMore operator_most before now
few_maps n before now few counts =
    record { mults = omega (arith, counts.mults); maps = omega (arith, counts.most, few) }

-- the step that multiplies by an integer
abbrev pub times : ℤ → StepValue
times k z = Some (z *ℤ k)

a_col_as : (flipped : Bool) (layout : Layout) → 1 ≤ layout.rows → 1 ≤ layout.cols → 1 ≤ cols_as flipped layout
a_col_as true layout a_row a_col = a_row
a_col_as false layout a_row a_col = a_col

-- what the chain of this step says of the matrix: its fault
pub chain_fault_is : {G : Type 0} (bits : ℕ) (codes : G → List ℕ) (dictionary : G → List (List ℤ)) (t : TableOf G)
    (m : Matrix) (k : ℤ)
    → IsWhole bits (layout_of codes dictionary t) → matrix_of codes dictionary t ≡ m
    → chain_fault bits (rows_of_table t) (cols_of_table t) (times k ∷ []) (table_entry codes dictionary t)
    ≡ product_fault bits m k
chain_fault_is bits codes dictionary t m k whole is =
    let layout = layout_of codes dictionary t in
    fault_is bits t.flipped layout m k (a_col_as t.flipped layout whole.a_row whole.a_col) is

-- and its product
pub chained_is : {G : Type 0} (bits : ℕ) (codes : G → List ℕ) (dictionary : G → List (List ℤ)) (t new : TableOf G)
    (m : Matrix) (k : ℤ)
    → IsWhole bits (layout_of codes dictionary t) → matrix_of codes dictionary t ≡ m
    → IsMappedTo codes dictionary (scaled_entry (table_entry codes dictionary t) k) t new →
    matrix_of codes dictionary new ≡ scaled m k
chained_is bits codes dictionary t new m k whole is chained =
    let flips : new.flipped ≡ t.flipped = ap (λ (s : SkeletonOf). s.flipped) chained.skeleton in
    let rows : new.rows ≡ t.rows = ap (λ (s : SkeletonOf). s.rows) chained.skeleton in
    let cols : new.cols ≡ t.cols = ap (λ (s : SkeletonOf). s.cols) chained.skeleton in
    let old_layout = layout_of codes dictionary t in
    let layout = layout_of codes dictionary new in
    subst (λ (f : Bool). matrix_as f layout ≡ scaled m k) (sym flips)
    (product_is t.flipped old_layout m k layout (rw rows whole.a_row) (rw cols whole.a_col) is rows cols
    (λ i j row col. subst (λ (f : Bool). entry_as f layout i j ≡ entry_as t.flipped old_layout i j *ℤ k) flips
    (chained.entries i j row col)))

-- what a chain of these steps answers
abbrev pub ChainsTo : {N G : Type 0} → ℕ → (N → ℤ) → (G → List ℕ) → (G → List (List ℤ)) → TableOf G →
    Result (TableOf G) Refused
    → Counts → Counts → List (Step N) → Type 0
ChainsTo bits value codes dictionary t result before now steps =
    MapsTable codes dictionary (λ i j. chain_value (map (step_cell value) steps) (table_entry codes dictionary t i j))
    (chain_fault bits (rows_of_table t) (cols_of_table t) (map (step_cell value) steps)
    (table_entry codes dictionary t))
    (values_of (parts_of codes dictionary t.parts) * length steps) t result before now

-- and the refusal of one that multiplies
pub refused_is : {N G : Type 0} (bits : ℕ) (value : N → ℤ) (codes : G → List ℕ) (dictionary : G → List (List ℤ))
    (t : TableOf G)
    (m : Matrix) (k : ℤ) (steps : List (Step N)) (step : Step N) (refused : Refused) (before now : Counts) →
    steps ≡ step ∷ []
    → chain_fault bits (rows_of_table t) (cols_of_table t) (step_cell value step ∷ []) (table_entry codes dictionary t)
    ≡ product_fault bits m k
    → ChainsTo bits value codes dictionary t (Err refused) before now steps → AnswersProduct bits m k (Err refused)
refused_is bits value codes dictionary t m k steps step (Op found) before now are is maps =
    sym is ∙ subst (ChainsTo bits value codes dictionary t (Err (Op found)) before now) are maps
refused_is bits value codes dictionary t m k steps step Memory before now are is maps = record {}

-- cells have the shape of what they are mapped to
pub shape_is : {X : Type 0} (value : X → ℤ) (rows cols : ℕ) (cells : List X) (values : List ℤ) →
    map value cells ≡ values
    → IsShaped rows cols cells → IsShaped rows cols values
shape_is value rows cols cells values are shaped = record {
  a_row = shaped.a_row;
  a_col = shaped.a_col;
  count = ap (λ (l : List ℤ). length l) (sym are) ∙ length-map cells value ∙ shaped.count;
  few = shaped.few;
}

-- a loose table stands for the matrix of which it was made
pub loose_matrix : {G : Type 0} (codes : G → List ℕ) (dictionary : G → List (List ℤ)) (t : TableOf G) (m : Matrix)
    → IsShaped m.rows m.cols m.cells → layout_of codes dictionary t ≡ loose_layout m → t.flipped ≡ false
    → matrix_of codes dictionary t ≡ m
loose_matrix codes dictionary t m shaped is flat =
    subst (λ (f : Bool). matrix_as f (layout_of codes dictionary t) ≡ m) (sym flat) (ap matrix_in is
    ∙ loose_stands m shaped)
