-- First places and extremes over the parts of a layout.
use Rattle.std.proofs.Common.{◌≡◌, ℕ, ℤ, ◌<◌, ◌≤◌, ◌↔◌, List, length, get_or, Option, None, Some, refl, ap, subst}
use Rattle.std.proofs.Common.{sym, ◌∙◌, arith}
use Rattle.std.proofs.lemmas.Bool.{ltb-true}
use Rattle.cla_layout.specs.Groups.{code_of, value_of, cell_of, first_row_of}
use Rattle.cla_layout.proofs.Regroup.{first_row_there, code_of_first_row, first_row_least}
use Rattle.cla_layout.specs.Layouts.{LayoutPart, Layout, IsWhole, no_part, part_at, column_at, index_of, entry_in}
use Rattle.cla_layout.specs.Firsts.{IsFirstOf, least_of, IsFirstFault, earliest_fault, IsExtremeEntry}
use Rattle.cla_layout.proofs.Leasts.{IsLeast, least_same, OfAny, least_of_all, alone, all_alone, least_alone}
use Rattle.cla_layout.proofs.Leasts.{length-all_alone}
use Rattle.cla_layout.proofs.Leasts.{get_or-all_alone}
use Rattle.cla_layout.specs.Laws.{first_cell, IsFirstFaultOfPart, IsExtremeOfParts}
use Rattle.cla_layout.proofs.Wholes.{some_part, entry_of_part, own_column, own_column_within}
use Rattle.cla_layout.proofs.Matrices.{column_there}

-- the places of the cells of a result where something is so
abbrev IsAt : {W : Type 0} → ℕ → ℕ → (ℕ → ℕ → W → ℕ) → (ℕ → ℕ → W → Type 0) → ℕ → W → Type 0
IsAt rows cols place Is p w = (i : ℕ) × (j : ℕ) × (i < rows) × (j < cols) × (place i j w ≡ p) × Is i j w

least_place : (rows cols : ℕ) (place : ℕ → ℕ → ℕ) (Fails : ℕ → ℕ → Type 0) (first : Option ℕ) →
    IsFirstOf rows cols place Fails first
    → IsLeast (IsAt rows cols (λ i j w. place i j) (λ i j w. Fails i j)) (alone first)
least_place rows cols place Fails None none = λ p w at. none at.0 at.1 at.2 at.3 at.5
least_place rows cols place Fails (Some p) is =
    (is.reached, λ q w at. (let le = is.least at.0 at.1 at.2 at.3 at.5 in omega (arith, le, at.4)))

first_place : (rows cols : ℕ) (place : ℕ → ℕ → ℕ) (Fails : ℕ → ℕ → Type 0) (first : Option ℕ)
    → IsLeast (IsAt rows cols (λ i j w. place i j) (λ i j w. Fails i j)) (alone first) →
    IsFirstOf rows cols place Fails first
first_place rows cols place Fails None none = λ i j row col fails. none (place i j) tt (i, j, row, col, refl, fails)
first_place rows cols place Fails (Some p) least = record {
  reached = least.0;
  least = λ i j row col fails. least.1 (place i j) tt (i, j, row, col, refl, fails);
}

some_of : {W : Type 0} (fault : Option W) (w : W) → fault ≡ None → fault ≡ Some w → ⊥
some_of fault w none some = cc

none_of : {W : Type 0} (fault : Option W) → ((w : W) → fault ≡ Some w → ⊥) → fault ≡ None
none_of None none = refl
none_of (Some w) none = absurd (none w refl)

least_fault : {W : Type 0} (rows cols : ℕ) (place : ℕ → ℕ → W → ℕ) (fault : ℕ → ℕ → Option W) (first : Option (ℕ × W))
    → IsFirstFault rows cols place fault first
    → IsLeast (IsAt rows cols place (λ i j w. fault i j ≡ Some w)) first
least_fault rows cols place fault None none = λ p w at. some_of (fault at.0 at.1) w (none at.0 at.1 at.2 at.3) at.5
least_fault rows cols place fault (Some first) is =
    (is.reached, λ q w at. (let le = is.least at.0 at.1 w at.2 at.3 at.5 in omega (arith, le, at.4)))

first_fault : {W : Type 0} (rows cols : ℕ) (place : ℕ → ℕ → W → ℕ) (fault : ℕ → ℕ → Option W) (first : Option (ℕ × W))
    → IsLeast (IsAt rows cols place (λ i j w. fault i j ≡ Some w)) first → IsFirstFault rows cols place fault first
first_fault rows cols place fault None none =
    λ i j row col. none_of (fault i j) (λ w some. none (place i j w) w (i, j, row, col, refl, some))
first_fault rows cols place fault (Some first) least = record {
  reached = least.0;
  least = λ i j w row col some. least.1 (place i j w) w (i, j, row, col, refl, some);
}

-- rows and columns exchanged
pub first_transposed : (rows cols : ℕ) (place : ℕ → ℕ → ℕ) (Fails : ℕ → ℕ → Type 0) (first : Option ℕ)
    → IsFirstOf rows cols place Fails first → IsFirstOf cols rows (λ j i. place i j) (λ j i. Fails i j) first
first_transposed rows cols place Fails None none = λ j i col row fails. none i j row col fails
first_transposed rows cols place Fails (Some p) is = record {
  reached = (is.reached.1, is.reached.0, is.reached.3, is.reached.2, is.reached.4, is.reached.5);
  least = λ j i col row fails. is.least i j row col fails;
}

pub fault_transposed : {W : Type 0} (rows cols : ℕ) (place : ℕ → ℕ → W → ℕ) (fault : ℕ → ℕ → Option W)
    (first : Option (ℕ × W))
    → IsFirstFault rows cols place fault first → IsFirstFault cols rows (λ j i. place i j) (λ j i. fault i j) first
fault_transposed rows cols place fault None none = λ j i col row. none i j row col
fault_transposed rows cols place fault (Some first) is = record {
  reached = (is.reached.1, is.reached.0, is.reached.3, is.reached.2, is.reached.4, is.reached.5);
  least = λ j i w col row some. is.least i j w row col some;
}

-- the cell of a tuple's value: in the tuple's first row
pub cell_of_value : (bits : ℕ) (layout : Layout) (q k c : ℕ) → IsWhole bits layout → q < length layout.parts
    → k < length (part_at layout.parts q).tuples → c < length (part_at layout.parts q).columns
    → (first_row_of (part_at layout.parts q).codes k < layout.rows)
    × (column_at (part_at layout.parts q).columns c < layout.cols)
    × (entry_in layout.parts (first_row_of (part_at layout.parts q).codes k)
    (column_at (part_at layout.parts q).columns c)
    ≡ value_of (part_at layout.parts q).tuples k c)
cell_of_value bits layout q k c whole there tuple place =
    let part = part_at layout.parts q in
    let are = whole.each q there in
    let used = are.group.used k tuple in
    let i = first_row_of part.codes k in
    let j = column_at part.columns c in
    let own = own_column part c are.rising place in
    let row : i < layout.rows = omega (arith, first_row_there part.codes k used, are.a_code_each) in
    let col : j < layout.cols = own_column_within layout.cols layout.parts q j whole.partition there own.1 in (
      row,
      col,
      entry_of_part layout.cols layout.parts q i j whole.partition there col own.1
          ∙ ap (cell_of part.codes part.tuples i) own.0
          ∙ ap (λ (t : ℕ). value_of part.tuples t c) (code_of_first_row part.codes k used),
    )

-- the value of a cell: its tuple's first row is no later
pub record IsValueOf (layout : Layout) (i j q k c : ℕ) : Type 0 where
  pub there : q < length layout.parts
  pub tuple : k < length (part_at layout.parts q).tuples
  pub place : c < length (part_at layout.parts q).columns
  pub column : column_at (part_at layout.parts q).columns c ≡ j
  pub entry : entry_in layout.parts i j ≡ value_of (part_at layout.parts q).tuples k c
  pub first : first_row_of (part_at layout.parts q).codes k ≤ i

pub value_of_cell : (bits : ℕ) (layout : Layout) (i j : ℕ) → IsWhole bits layout → i < layout.rows → j < layout.cols →
    (q : ℕ) × (k : ℕ)
    × (c : ℕ) × IsValueOf layout i j q k c
value_of_cell bits layout i j whole row col =
    let found = some_part layout.cols layout.parts j whole.partition col in
    let q = found.0 in
    let part = part_at layout.parts q in
    let are = whole.each q found.1 in
    let place = ltb-true _ _ found.2 in (
      q,
      code_of part.codes i,
      index_of part.columns j,
      record {
        there = found.1;
        tuple = are.group.in_tuples i (rw are.a_code_each row);
        place = place;
        column = column_there part.columns j place;
        entry = entry_of_part layout.cols layout.parts q i j whole.partition found.1 col found.2;
        first = first_row_least part.codes i;
      },
    )

-- what is so of the values of a part: each at the place of its tuple's first row and its column
abbrev IsInPart : {W : Type 0} → (ℕ → ℕ → W → ℕ) → (ℕ → ℤ → W → Type 0) → LayoutPart → ℕ → W → Type 0
IsInPart place Is part =
    IsAt (length part.tuples) (length part.columns)
    (λ k c w. place (first_row_of part.codes k) (column_at part.columns c) w)
    (λ k c w. Is (column_at part.columns c) (value_of part.tuples k c) w)

-- the least place of the values of all parts is that of the cells
least_by_parts : {W : Type 0} (bits : ℕ) (layout : Layout) (place : ℕ → ℕ → W → ℕ) (Is : ℕ → ℤ → W → Type 0)
    (firsts : List (Option (ℕ × W))) → IsWhole bits layout
    → ((i r j : ℕ) (w : W) → i ≤ r → place i j w ≤ place r j w) → length firsts ≡ length layout.parts
    → ((q : ℕ) → q < length layout.parts → IsLeast (IsInPart place Is (part_at layout.parts q)) (get_or firsts q None))
    → IsLeast (IsAt layout.rows layout.cols place (λ i j w. Is j (entry_in layout.parts i j) w)) (earliest_fault firsts)
least_by_parts {W} bits layout place Is firsts whole rises same each =
    let parts = layout.parts in
    least_same (OfAny (IsInPart place Is) no_part parts)
    (IsAt layout.rows layout.cols place (λ i j w. Is j (entry_in parts i j) w))
    (earliest_fault firsts)
    (λ p w at.
    (let q = at.0 in
    let part = part_at parts q in
    let k = at.2.0 in
    let c = at.2.1 in
    let cell = cell_of_value bits layout q k c whole at.1 at.2.2 at.2.3 in
    let j = column_at part.columns c in
    (first_row_of part.codes k, j, cell.0, cell.1, at.2.4, subst (λ (z : ℤ). Is j z w) (sym cell.2) at.2.5)))
    (λ p w at.
    (let i = at.0 in
    let j = at.1 in
    let value = value_of_cell bits layout i j whole at.2 at.3 in
    let part = part_at parts value.0 in
    let k = value.1 in
    let c = value.2 in
    let is = value.3 in
    let here : Is (column_at part.columns c) (value_of part.tuples k c) w =
    rw is.column (subst (λ (z : ℤ). Is j z w) is.entry at.5) in
    let earlier : place (first_row_of part.codes k) (column_at part.columns c) w ≤ place i j w =
    rw is.column (rises (first_row_of part.codes k) i j w is.first) in (
      place (first_row_of part.codes k) (column_at part.columns c) w,
      (value.0, is.there, (k, c, is.tuple, is.place, refl, here)),
      omega
          (arith, earlier, at.4),
    )))
    (least_of_all (IsInPart place Is) no_part parts firsts same each)

-- the first cell that fails is the least of the first places of the parts
pub first_by_parts : (bits : ℕ) (layout : Layout) (place : ℕ → ℕ → ℕ) (Fails : ℕ → ℤ → Type 0)
    (firsts : List (Option ℕ))
    → IsWhole bits layout → ((i r j : ℕ) → i ≤ r → place i j ≤ place r j)
    → length firsts ≡ length layout.parts
    → ((q : ℕ) → q < length layout.parts →
    IsFirstOf (length (part_at layout.parts q).tuples) (length (part_at layout.parts q).columns)
    (first_cell place (part_at layout.parts q))
    (λ k c. Fails (column_at (part_at layout.parts q).columns c) (value_of (part_at layout.parts q).tuples k c))
    (get_or firsts q None))
    → IsFirstOf layout.rows layout.cols place (λ i j. Fails j (entry_in layout.parts i j)) (least_of firsts)
first_by_parts bits layout place Fails firsts whole rises same each =
    first_place layout.rows layout.cols place (λ i j. Fails j (entry_in layout.parts i j)) (least_of firsts)
    (subst (IsLeast (IsAt layout.rows layout.cols (λ i j w. place i j) (λ i j w. Fails j (entry_in layout.parts i j))))
    (least_alone firsts)
    (least_by_parts bits layout (λ i j w. place i j) (λ j z w. Fails j z) (all_alone firsts) whole
    (λ i r j w le. rises i r j le)
    (length-all_alone firsts ∙ same)
    (λ q there. (let part = part_at layout.parts q in
    subst (IsLeast (IsInPart (λ i j w. place i j) (λ j z w. Fails j z) part)) (sym (get_or-all_alone firsts q))
    (least_place (length part.tuples) (length part.columns) (first_cell place part)
    (λ k c. Fails (column_at part.columns c) (value_of part.tuples k c)) (get_or firsts q None) (each q there))))))

-- and so is the first fault
pub fault_by_parts : {W : Type 0} (bits : ℕ) (layout : Layout) (place : ℕ → ℕ → W → ℕ) (fault : ℕ → ℤ → Option W)
    (firsts : List (Option (ℕ × W))) → IsWhole bits layout
    → ((i r j : ℕ) (w : W) → i ≤ r → place i j w ≤ place r j w) → length firsts ≡ length layout.parts
    → ((q : ℕ) → q < length layout.parts →
    IsFirstFaultOfPart place fault (part_at layout.parts q) (get_or firsts q None))
    → IsFirstFault layout.rows layout.cols place (λ i j. fault j (entry_in layout.parts i j)) (earliest_fault firsts)
fault_by_parts bits layout place fault firsts whole rises same each =
    first_fault layout.rows layout.cols place (λ i j. fault j (entry_in layout.parts i j)) (earliest_fault firsts)
    (least_by_parts bits layout place (λ j z w. fault j z ≡ Some w) firsts whole rises same
    (λ q there. (let part = part_at layout.parts q in
    least_fault (length part.tuples) (length part.columns)
    (λ k c w. place (first_row_of part.codes k) (column_at part.columns c) w)
    (λ k c. fault (column_at part.columns c) (value_of part.tuples k c))
    (get_or firsts q None) (each q there))))

-- the least or the greatest entry is that of the tuples of all parts
pub extreme_by_parts : (bits : ℕ) (layout : Layout) (Before : ℤ → ℤ → Type 0) (f : ℕ → ℤ → ℤ) (v : ℤ) →
    IsWhole bits layout
    → IsExtremeEntry Before layout.rows layout.cols (λ i j. f j (entry_in layout.parts i j)) v ↔ IsExtremeOfParts Before
    f layout.parts v
extreme_by_parts bits layout Before f v whole = (
  λ cells.
      (let i = cells.reached.0 in
      let j = cells.reached.1 in
      let value = value_of_cell bits layout i j whole cells.reached.2 cells.reached.3 in
      let part = part_at layout.parts value.0 in
      let is = value.3 in
      let reached : f (column_at part.columns value.2) (value_of part.tuples value.1 value.2)
      ≡ v = ap (λ (c : ℕ). f c (value_of part.tuples value.1 value.2)) is.column ∙ ap (f j) (sym is.entry)
      ∙ cells.reached.4 in
      record {
        reached = (value.0, is.there, (value.1, value.2, is.tuple, is.place, reached));
        before = λ q k c there tuple place.
            (let j = column_at (part_at layout.parts q).columns c in
            let cell = cell_of_value bits layout q k c whole there tuple place in
            subst (λ (z : ℤ). Before v (f j z)) cell.2 (cells.before (first_row_of (part_at layout.parts q).codes k) j
            cell.0 cell.1));
      }),
  λ values.
      (let q = values.reached.0 in
      let part = part_at layout.parts q in
      let at = values.reached.2 in
      let j = column_at part.columns at.1 in
      let cell = cell_of_value bits layout q at.0 at.1 whole values.reached.1 at.2 at.3 in
      record {
        reached = (first_row_of part.codes at.0, j, cell.0, cell.1, ap (f j) cell.2 ∙ at.4);
        before = λ i j row col.
            (let value = value_of_cell bits layout i j whole row col in
            let is = value.3 in
            let before = values.before value.0 value.1 value.2 is.there is.tuple is.place in
            subst (λ (z : ℤ). Before v (f j z)) (sym is.entry) (rw is.column at before));
      }),
)

pub extreme_transposed : (Before : ℤ → ℤ → Type 0) (rows cols : ℕ) (entry : ℕ → ℕ → ℤ) (v : ℤ) →
    IsExtremeEntry Before rows cols entry v
    → IsExtremeEntry Before cols rows (λ j i. entry i j) v
extreme_transposed Before rows cols entry v is = record {
  reached = (is.reached.1, is.reached.0, is.reached.3, is.reached.2, is.reached.4);
  before = λ j i col row. is.before i j row col;
}
