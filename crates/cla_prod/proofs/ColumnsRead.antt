-- Columns that are read one by one: what they multiply, and the lines that are written for them.
use Rattle.std.proofs.Common.{◌≡◌, ℕ, ℤ, pos, zero, suc, ◌+◌, ◌*◌, ◌<◌, ◌≤◌, List, [], ◌∷◌, length, map, take, drop}
use Rattle.std.proofs.Common.{sum_by, Bool, true, refl, ap, subst, sym, ◌∙◌, arith, inl, inr}
use Rattle.std.proofs.Math.Nat.{mul_comm, mul-le-mul, mul-le-mul_left, mul-le-mul_right}
use Rattle.std.proofs.lemmas.Bool.{cases_eq, cases_lt, ltb-true}
use Rattle.std.proofs.lemmas.List.{take_more, get_or-take, get_or-drop}
use Rattle.std.proofs.lemmas.List.Sums.{sum_by-cons, sum_by_push, sum_by-append, sum_by-take-le}
use borrow.Rule.Slice.PartMut.{put_mid}
use Rattle.cla_spec.specs.Matrix.{most_cells}
use Rattle.cla_spec.proofs.Entries.{cell_within}
use Rattle.cla_layout.specs.Groups.{at, cell_of, first_row_of}
use Rattle.cla_layout.specs.Layouts.{LayoutPart, layout_with, part_at, column_at, entry_in, all_columns, has_column}
use Rattle.cla_layout.specs.Layouts.{IsPart, IsWhole}
use Rattle.cla_layout.specs.Values.{values_of}
use Rattle.cla_layout.proofs.Columns.{Rise}
use Rattle.cla_layout.proofs.Matrices.{column_there}
use Rattle.cla_layout.proofs.PartValues.{columns_count}
use Rattle.cla_layout.proofs.Wholes.{own_column, own_column_within, some_part, entry_of_part}
use Rattle.cla_prod.specs.declared.lines.Lines.{Lines}
use Rattle.cla_prod.specs.declared.numbers.Order.{Order}
use Rattle.cla_prod.specs.declared.numbers.Order.TheVariants.{Rows, Columns, Mirrored}
use Rattle.cla_prod.specs.Columns.{AreColumns, AreLinesOf, IsLineOf, IsOneOf, column_values, first_item, listed_values}
use Rattle.cla_prod.specs.Columns.{IsTurned, read_values}
use Rattle.cla_prod.proofs.ColumnsSet.{rising_other, other_part, values_from_few}
use Rattle.cla_prod.proofs.LinesRead.{some_items, values_bound}
use Rattle.cla_prod.proofs.LinesWritten.{put_below, put_here, behind_line}

-- mirrored lines are those of a transpose
pub turned_is : (order : Order) (turned : Bool) → order ≡ Mirrored → IsTurned order turned → turned ≡ true
turned_is Rows turned same is = absurd (cc same)
turned_is Columns turned same is = absurd (cc same)
turned_is Mirrored turned same is = is

-- a whole layout, by other names
pub whole_at : (bits rows cols rows' cols' : ℕ) (parts parts' : List LayoutPart)
    → IsWhole bits (layout_with rows cols parts) → rows' ≡ rows → cols' ≡ cols → parts' ≡ parts
    → IsWhole bits (layout_with rows' cols' parts')
whole_at bits rows cols rows' cols' parts parts' whole r c p =
    subst (λ (n : ℕ). IsWhole bits (layout_with n cols' parts')) (sym r)
    (subst (λ (n : ℕ). IsWhole bits (layout_with rows n parts')) (sym c)
    (subst (λ (ps : List LayoutPart). IsWhole bits (layout_with rows cols ps)) (sym p) whole))

-- a column multiplies each value once at most
column_few : (order : Order) (parts : List LayoutPart) (j : ℕ) → column_values order parts j ≤ values_of parts
column_few Rows parts j = omega arith
column_few Columns parts j = omega arith
column_few Mirrored parts j = values_from_few j parts

sum_few : (f : ℕ → ℕ) (n : ℕ) (columns : List ℕ) → ((j : ℕ) → f j ≤ n) → sum_by f columns ≤ length columns * n
sum_few f n [] each = omega arith
sum_few f n (j ∷ columns) each = omega (arith, sum_by-cons f j columns, each j, sum_few f n columns each)

sum_once : (f : ℕ → ℕ) (n : ℕ) (columns : List ℕ) → ((j : ℕ) → f j ≡ n) → sum_by f columns ≡ length columns * n
sum_once f n [] each = omega arith
sum_once f n (j ∷ columns) each = omega (arith, sum_by-cons f j columns, each j, sum_once f n columns each)

-- one more column
pub listed_more : (order : Order) (parts : List LayoutPart) (columns : List ℕ) (c : ℕ) → c < length columns
    → listed_values order parts (take (c + 1) columns)
    ≡ listed_values order parts (take c columns) + column_values order parts (column_at columns c)
listed_more order parts columns c there =
    ap (listed_values order parts) (take_more columns c 0 there)
    ∙ sum_by_push (column_values order parts) (take c columns) (column_at columns c)

abbrev values_read : Order → List LayoutPart → LayoutPart → ℕ
values_read order parts part = listed_values order parts part.columns

pub read_listed : (order : Order) (parts base : List LayoutPart)
    → read_values order parts base ≡ listed_values order parts (all_columns base)
read_listed order parts [] = refl
read_listed order parts (part ∷ base) =
    omega (
      arith,
      sum_by-cons (values_read order parts) part base,
      sum_by-append (column_values order parts) part.columns (all_columns base),
      read_listed order parts base,
    )

-- one more part
pub read_more : (order : Order) (parts base : List LayoutPart) (q : ℕ) → q < length base
    → read_values order parts (take (q + 1) base)
    ≡ read_values order parts (take q base) + listed_values order parts (part_at base q).columns
read_more order parts [] q there = absurd (omega (arith, there))
read_more order parts (part ∷ base) zero there = omega (arith, sum_by-cons (values_read order parts) part [])
read_more order parts (part ∷ base) (suc q) there =
    let next : suc q + 1 ≡ suc (q + 1) = omega arith in
    ap (λ (n : ℕ). read_values order parts (take n (part ∷ base))) next
    ∙ omega (
      arith,
      sum_by-cons (values_read order parts) part (take (q + 1) base),
      sum_by-cons (values_read order parts) part (take q base),
      read_more order parts base q (omega (arith, there)),
    )

-- where each column multiplies each value, all columns do
pub read_whole : (order : Order) (bits rows cols : ℕ) (parts base : List LayoutPart)
    → IsWhole bits (layout_with rows cols base) → ((j : ℕ) → column_values order parts j ≡ values_of parts)
    → read_values order parts base ≡ values_of parts * cols
read_whole order bits rows cols parts base whole each =
    let columns = all_columns base in
    let listed : length columns * values_of parts ≡ cols * values_of parts =
    ap (λ (n : ℕ). n * values_of parts) (columns_count cols columns whole.partition) in
    read_listed order parts base
    ∙ sum_once (column_values order parts) (values_of parts) columns each
    ∙ listed ∙ mul_comm cols (values_of parts)

-- all columns multiply no more than this
all_few : (bits : ℕ) (base parts : List LayoutPart) (lines : Lines) (coded products : ℕ)
    → AreColumns bits base parts lines coded products
    → read_values lines.order parts base ≤ most_cells * most_cells
all_few bits base parts lines coded products are =
    let some = (some_items bits lines.turned lines.outer lines.inner parts are.whole).0 in
    let few : lines.count ≤ most_cells = omega (arith, are.few, mul-le-mul_left lines.count some) in
    let columns = all_columns base in
    let listed : length columns ≡ lines.count = columns_count lines.count columns are.columns.partition in
    let each = sum_few (column_values lines.order parts) (values_of parts) columns (column_few lines.order parts) in
    let most = mul-le-mul {n₁ = length columns} {m₁ = values_of parts} {n₂ = most_cells} {m₂ = most_cells}
    (omega (arith, listed, few)) (values_bound bits lines.turned lines.outer lines.inner parts are.whole) in
    omega (arith, read_listed lines.order parts base, each, most)

-- nor do those of the parts before part q
pub read_few : (bits : ℕ) (base parts : List LayoutPart) (lines : Lines) (coded products q : ℕ)
    → AreColumns bits base parts lines coded products
    → read_values lines.order parts (take q base) ≤ most_cells * most_cells
read_few bits base parts lines coded products q are =
    omega (
      arith,
      sum_by-take-le (values_read lines.order parts) base q,
      all_few bits base parts lines coded products are,
    )

part_of_all : (order : Order) (parts base : List LayoutPart) (q : ℕ) → q < length base
    → listed_values order parts (part_at base q).columns ≤ read_values order parts base
part_of_all order parts [] q there = absurd (omega (arith, there))
part_of_all order parts (part ∷ base) zero there = omega (arith, sum_by-cons (values_read order parts) part base)
part_of_all order parts (part ∷ base) (suc q) there =
    omega (
      arith,
      sum_by-cons (values_read order parts) part base,
      part_of_all order parts base q (omega (arith, there)),
    )

-- nor do the columns of a part before place c
pub listed_few : (bits : ℕ) (base parts : List LayoutPart) (lines : Lines) (coded products c : ℕ) (part : LayoutPart)
    → AreColumns bits base parts lines coded products → IsOneOf part base
    → listed_values lines.order parts (take c part.columns) ≤ most_cells * most_cells
listed_few bits base parts lines coded products c part are (q, there, same) =
    subst (λ (p : LayoutPart). listed_values lines.order parts (take c p.columns) ≤ most_cells * most_cells) same
    (omega (
      arith,
      all_few bits base parts lines coded products are,
      part_of_all lines.order parts base q there,
      sum_by-take-le (column_values lines.order parts) (part_at base q).columns c,
    ))

-- a line that is written leaves all others
line_other : (l d i count outer n : ℕ) (old line : List ℤ) → l < count → d < count → i < outer → (d ≡ l → ⊥)
    → length old ≡ count * outer → n ≡ outer → length line ≡ outer
    → at (put_mid (l * outer) n old line) (d * outer + i) ≡ at old (d * outer + i)
line_other l d i count outer n old line there also col other long is size = elim (cases_lt d l) [
  | inl before ↦
      let up_to : suc l * outer ≤ count * outer = mul-le-mul_right outer there in
      put_below (l * outer) n (d * outer + i) old line (cell_within l outer d i before col) (omega (arith, long, up_to))
  | inr past ↦
      let behind : l + 1 ≤ d = grind (arith, past, other) in
      behind_line l count outer n (d * outer + i) old line there long is size
      (omega (arith, mul-le-mul_right {m = l + 1} {n = d} outer behind))
]

-- one more column of a list has its line
pub place_step : (lines : Lines) (n c j : ℕ) (item : ℕ → ℕ → ℤ) (columns : List ℕ) (old now line : List ℤ)
    → Rise columns → c < length columns → ((b : ℕ) → b < length columns → column_at columns b < lines.count)
    → j ≡ column_at columns c → length now ≡ lines.count * lines.outer → n ≡ lines.outer → length line ≡ lines.outer
    → ((i : ℕ) → first_item lines.order j ≤ i → i < lines.outer → at line i ≡ item j i)
    → AreLinesOf lines c item columns old now
    → AreLinesOf lines (c + 1) item columns old (put_mid (j * lines.outer) n now line)
place_step lines n c j item columns old now line rising there within column long is size new are =
    let outer = lines.outer in
    let j_within : j < lines.count = rw column (within c there) in
    let up_to : suc j * outer ≤ lines.count * outer = mul-le-mul_right outer j_within in
    record {
      here = λ b before i from col. elim (cases_eq b c) [
        | inl same ↦
            let line_is : column_at columns b ≡ j = ap (column_at columns) same ∙ sym column in
            ap (λ (d : ℕ). at (put_mid (j * outer) n now line) (d * outer + i)) line_is
            ∙ put_here (j * outer) n i now line (omega (arith, size, col)) (omega (arith, long, up_to))
            ∙ new i (subst (λ (d : ℕ). first_item lines.order d ≤ i) line_is from) col
            ∙ ap (λ (d : ℕ). item d i) (sym line_is)
        | inr other ↦
            let early : b < c = grind (arith, before, other) in
            line_other j (column_at columns b) i lines.count outer n now line j_within
            (within b (omega (arith, early, there))) col
            (λ same. rising_other columns b c rising early there (same ∙ column)) long is size
            ∙ are.here b early i from col
      ];
      kept = λ d i none line_there col.
          line_other j d i lines.count outer n now line j_within line_there col
          (λ same. none c (omega arith) (sym column ∙ sym same)) long is size
          ∙ are.kept d i (λ b lt. none b (omega (arith, lt))) line_there col;
    }

-- the line of the column that comes next holds zeros
pub next_line : (lines : Lines) (n c j : ℕ) (item : ℕ → ℕ → ℤ) (columns : List ℕ) (old now : List ℤ)
    → Rise columns → c < length columns → j ≡ column_at columns c → j < lines.count → n ≡ lines.outer
    → ((b i : ℕ) → b < length columns → i < lines.outer → at old (column_at columns b * lines.outer + i) ≡ pos 0)
    → AreLinesOf lines c item columns old now
    → (i : ℕ) → i < lines.outer → at (take n (drop (j * lines.outer) now)) i ≡ pos 0
next_line lines n c j item columns old now rising there column within is zeros are i col =
    get_or-take n (drop (j * lines.outer) now) i (pos 0) (omega (arith, is, col))
    ∙ get_or-drop (j * lines.outer) now i (pos 0)
    ∙ are.kept j i (λ b before same. rising_other columns b c rising before there (same ∙ column)) within col
    ∙ ap (λ (d : ℕ). at old (d * lines.outer + i)) column ∙ zeros c i there col

-- the columns of the first q parts have their lines, and the lines of the others hold zeros
pub record AreReadTo (lines : Lines) (q : ℕ) (item : ℕ → ℕ → ℤ) (base : List LayoutPart) (exact : List ℤ) : Type 0
  where
    pub done : (p d : ℕ) → p < q → has_column (part_at base p) d ≡ true → IsLineOf lines item d exact
    pub zeros : (p d i : ℕ) → q ≤ p → p < length base → has_column (part_at base p) d ≡ true → i < lines.outer
        → at exact (d * lines.outer + i) ≡ pos 0

-- before the first part
pub none_read : (bits : ℕ) (lines : Lines) (item : ℕ → ℕ → ℤ) (base : List LayoutPart) (exact : List ℤ)
    → IsWhole bits (layout_with lines.inner lines.count base) → length exact ≡ lines.count * lines.outer
    → ((p : ℕ) → p < length exact → at exact p ≡ pos 0) → AreReadTo lines 0 item base exact
none_read bits lines item base exact whole long zeros = record {
  done = λ p d lt has i from col. absurd (omega (arith, lt));
  zeros = λ p d i past there has col.
      (let line = own_column_within lines.count base p d whole.partition there has in
      zeros (d * lines.outer + i) (rw long (cell_within lines.count lines.outer d i line col)));
}

-- one more part
pub parts_read : (bits : ℕ) (lines : Lines) (q : ℕ) (item : ℕ → ℕ → ℤ) (base : List LayoutPart) (old new : List ℤ)
    → IsWhole bits (layout_with lines.inner lines.count base) → q < length base
    → AreLinesOf lines (length (part_at base q).columns) item (part_at base q).columns old new
    → AreReadTo lines q item base old → AreReadTo lines (q + 1) item base new
parts_read bits lines q item base old new whole there are so_far = record {
  done = λ p d lt has. elim (cases_eq p q) [
    | inl same ↦
        let part = part_at base q in
        let here : has_column part d ≡ true = rw same at has in
        let place = first_row_of part.columns d in
        let within : place < length part.columns = ltb-true _ _ here in
        let column : column_at part.columns place ≡ d = column_there part.columns d within in
        subst (λ (l : ℕ). IsLineOf lines item l new) column (are.here place within)
    | inr other ↦
        let early : p < q = grind (arith, lt, other) in
        let before : p < length base = omega (arith, early, there) in
        let line = own_column_within lines.count base p d whole.partition before has in
        λ i from col.
        are.kept d i (other_part bits lines.inner lines.count base p q d whole before there other has) line col
        ∙ so_far.done p d early has i from col
  ];
  zeros = λ p d i past lt has col.
      (let line = own_column_within lines.count base p d whole.partition lt has in
      let other = other_part bits lines.inner lines.count base p q d whole lt there
      (λ same. absurd (omega (arith, same, past))) has in
      are.kept d i other line col ∙ so_far.zeros p d i (omega (arith, past)) lt has col);
}

-- the lines of the part that comes next hold zeros
pub next_lines : (bits : ℕ) (lines : Lines) (q : ℕ) (item : ℕ → ℕ → ℤ) (base : List LayoutPart) (exact : List ℤ)
    → IsWhole bits (layout_with lines.inner lines.count base) → q < length base → AreReadTo lines q item base exact
    → (c i : ℕ) → c < length (part_at base q).columns → i < lines.outer
    → at exact (column_at (part_at base q).columns c * lines.outer + i) ≡ pos 0
next_lines bits lines q item base exact whole there so_far c i place col =
    let own = own_column (part_at base q) c (whole.each q there).rising place in
    so_far.zeros q (column_at (part_at base q).columns c) i (omega arith) there own.1 col

-- after all parts each column has its line
pub all_read : (bits : ℕ) (lines : Lines) (q : ℕ) (item : ℕ → ℕ → ℤ) (base : List LayoutPart) (exact : List ℤ)
    → IsWhole bits (layout_with lines.inner lines.count base) → length base ≤ q → AreReadTo lines q item base exact
    → (d : ℕ) → d < lines.count → IsLineOf lines item d exact
all_read bits lines q item base exact whole all are d col =
    let found = some_part lines.count base d whole.partition col in
    are.done found.0 d (omega (arith, found.1, all)) found.2

-- a part of a base
pub record IsPartIn (bits rows cols : ℕ) (part : LayoutPart) : Type 0 where
  pub is : IsPart bits rows part
  pub within : (c : ℕ) → c < length part.columns → column_at part.columns c < cols

pub one_part : (bits rows cols : ℕ) (parts : List LayoutPart) (part : LayoutPart)
    → IsWhole bits (layout_with rows cols parts)
    → IsOneOf part parts → IsPartIn bits rows cols part
one_part bits rows cols parts part whole (q, there, same) =
    let each = whole.each q there in
    subst (λ (p : LayoutPart). IsPartIn bits rows cols p) same (record {
      is = each;
      within = λ c place.
          (let own = own_column (part_at parts q) c each.rising place in
          own_column_within cols parts q (column_at (part_at parts q).columns c) whole.partition there own.1);
    })

-- the entries of a part's columns
pub own_entry : (bits rows cols : ℕ) (parts : List LayoutPart) (part : LayoutPart) (i c j : ℕ)
    → IsWhole bits (layout_with rows cols parts) → IsOneOf part parts → c < length part.columns
    → j ≡ column_at part.columns c → cell_of part.codes part.tuples i c ≡ entry_in parts i j
own_entry bits rows cols parts part i c j whole (q, there, same) place column =
    let here : c < length (part_at parts q).columns = rw same place in
    let own = own_column (part_at parts q) c (whole.each q there).rising here in
    let line = column_at (part_at parts q).columns c in
    let within = own_column_within cols parts q line whole.partition there own.1 in
    let entry : entry_in parts i line ≡ cell_of (part_at parts q).codes (part_at parts q).tuples i c =
    entry_of_part cols parts q i line whole.partition there within own.1
    ∙ ap (cell_of (part_at parts q).codes (part_at parts q).tuples i) own.0 in
    ap (λ (p : LayoutPart). cell_of p.codes p.tuples i c) (sym same) ∙ sym entry
    ∙ ap (λ (p : LayoutPart). entry_in parts i (column_at p.columns c)) same ∙ ap (entry_in parts i) (sym column)
