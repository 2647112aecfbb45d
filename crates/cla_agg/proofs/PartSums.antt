-- Sums over parts, and how large they can be.
use Rattle.std.proofs.Common.{◌≡◌, ℕ, ℤ, zero, suc, ◌+◌, ◌*◌, ◌^◌, ◌<◌, ◌≤◌, ◌+ℤ◌, List, [], ◌∷◌, length, take, sum_by}
use Rattle.std.proofs.Common.{true, false, Bool, get_or, refl, ap, subst, sym, ◌∙◌, arith, length-append}
use Rattle.std.proofs.lemmas.List.{take_all}
use Rattle.std.proofs.lemmas.List.Sums.{sum_by-cons}
use Rattle.std.specs.Int.RustNames.{unsigned_abs}
use Rattle.cla_spec.specs.Numbers.{sum_to}
use Rattle.cla_spec.specs.Matrix.{sum_of_entries}
use Rattle.cla_spec.proofs.Sums.{sum_to-same, sum_to-size, sum_to-swap}
use Rattle.cla_num.specs.Bits.{IsSupported, value_bound}
use Rattle.cla_num.proofs.Sizes.{value_size, plus_size}
use Rattle.cla_layout.specs.Groups.{code_of, cell_of, IsGroup}
use Rattle.cla_layout.specs.Layouts.{LayoutPart, Layout, column_at, part_at, all_columns, entry_in, IsPart, IsWhole}
use Rattle.cla_coded.specs.declared.part.Part.{Part}
use Rattle.cla_coded.specs.Parts.{part_of, parts_of}
use Rattle.cla_coded.specs.Tables.{TableOf, layout_of, rows_of_table, cols_of_table, table_entry}
use Rattle.cla_layout.specs.Laws.{sum_over}
use Rattle.cla_coded.proofs.Outlines.{part_of_item, parts_count}
use Rattle.cla_layout.proofs.Wholes.{own_column, own_column_within, same_width}
use Rattle.cla_layout.proofs.PartSums.{cells_by_parts}
use Rattle.cla_layout.proofs.PartValues.{columns_count}
use Rattle.cla_agg.specs.Sums.{cells_sum}

abbrev pub width_of : LayoutPart → ℕ
width_of part = length part.columns

widths : (parts : List LayoutPart) → sum_by width_of parts ≡ length (all_columns parts)
widths [] = refl
widths (part ∷ parts) =
    omega (arith, sum_by-cons width_of part parts, widths parts, length-append part.columns (all_columns parts))

-- as many as there are columns
pub widths_are : (bits : ℕ) (layout : Layout) → IsWhole bits layout → sum_by width_of layout.parts ≡ layout.cols
widths_are bits layout whole = widths layout.parts
    ∙ columns_count layout.cols (all_columns layout.parts) whole.partition

-- how large a sum over the first parts can be, where each part gives so much for a column at most
pub sum_over-size : (f : LayoutPart → ℤ) (b : ℕ) (parts : List LayoutPart) (q : ℕ)
    → ((p : ℕ) → p < length parts → unsigned_abs (f (part_at parts p)) ≤ width_of (part_at parts p) * b)
    → unsigned_abs (sum_over f (take q parts)) ≤ sum_by width_of parts * b
sum_over-size f b [] zero small = omega arith
sum_over-size f b [] (suc q) small = omega arith
sum_over-size f b (part ∷ parts) zero small = omega arith
sum_over-size f b (part ∷ parts) (suc q) small =
    let more : unsigned_abs (sum_over f (take (suc q) (part ∷ parts)))
    ≡ unsigned_abs (f part +ℤ sum_over f (take q parts)) = refl in
    let wider : sum_by width_of (part ∷ parts) * b ≡ (length part.columns + sum_by width_of parts) * b =
    ap (λ (n : ℕ). n * b) (sum_by-cons width_of part parts) in
    let here : unsigned_abs (f part) ≤ length part.columns * b = small zero (omega arith) in
    omega (
      arith,
      more,
      wider,
      here,
      plus_size (f part) (sum_over f (take q parts)),
      sum_over-size f b parts q (λ p lt. small (suc p) (omega (arith, lt))),
    )

-- the cells of a part
part_size : (bits rows : ℕ) (part : LayoutPart) → IsSupported bits → IsPart bits rows part
    → unsigned_abs (cells_sum rows part) ≤ length part.columns * (rows * value_bound)
part_size bits rows part supported is =
    let f = cell_of part.codes part.tuples in
    let swapped : cells_sum rows part ≡ sum_to (λ c. sum_to (λ i. f i c) rows) (length part.columns) =
    sum_to-swap f rows (length part.columns) in
    rw swapped (sum_to-size (λ c. sum_to (λ i. f i c) rows) (rows * value_bound) (length part.columns)
    (λ c col. sum_to-size (λ i. f i c) value_bound rows
    (λ i row. value_size bits (f i c) supported
    (is.group.small (code_of part.codes i) c (is.group.in_tuples i (rw is.a_code_each row)) col))))

-- the sum over the first parts of a whole layout
pub sum_size : (bits : ℕ) (layout : Layout) (q : ℕ) → IsSupported bits → IsWhole bits layout
    → unsigned_abs (sum_over (cells_sum layout.rows) (take q layout.parts)) < 2 ^ 127
sum_size bits layout q supported whole =
    let sum = sum_over (cells_sum layout.rows) (take q layout.parts) in
    let small : unsigned_abs sum ≤ layout.cols * (layout.rows * value_bound) =
    rw (widths_are bits layout whole) at (sum_over-size (cells_sum layout.rows) (layout.rows * value_bound) layout.parts
    q
    (λ p there. part_size bits layout.rows (part_at layout.parts p) supported (whole.each p there))) in
    omega (arith, small, whole.few)

-- the sum over all parts is that of the entries
pub sums_are : (bits : ℕ) (layout : Layout) → IsWhole bits layout
    → sum_over (cells_sum layout.rows) layout.parts ≡ sum_of_entries layout.rows layout.cols (entry_in layout.parts)
sums_are bits layout whole = sym (cells_by_parts bits layout (λ i j z. z) whole)

-- and of a table's entries, flipped or not
pub sum_turned : {G : Type 0} (codes : G → List ℕ) (dictionary : G → List (List ℤ)) (rows cols : ℕ) (flipped : Bool)
    (parts : List (Part G))
    → sum_of_entries rows cols (entry_in (parts_of codes dictionary parts))
    ≡ sum_of_entries (rows_of_table (record { rows = rows; cols = cols; flipped = flipped; parts = parts }))
    (cols_of_table (record { rows = rows; cols = cols; flipped = flipped; parts = parts }))
    (table_entry codes dictionary (record { rows = rows; cols = cols; flipped = flipped; parts = parts }))
sum_turned codes dictionary rows cols true parts = sum_to-swap (entry_in (parts_of codes dictionary parts)) rows cols
sum_turned codes dictionary rows cols false parts = refl

-- a group's cells are those of its part
pub part_sum : {G : Type 0} (bits rows : ℕ) (width : G → ℕ) (codes : G → List ℕ) (dictionary : G → List (List ℤ))
    (part : Part G)
    → IsGroup bits (width part.group) (codes part.group) (dictionary part.group) →
    IsPart bits rows (part_of codes dictionary part)
    → sum_of_entries (length (codes part.group)) (width part.group) (cell_of (codes part.group) (dictionary part.group))
    ≡ cells_sum rows (part_of codes dictionary part)
part_sum bits rows width codes dictionary part laws is =
    let cell = cell_of (codes part.group) (dictionary part.group) in
    ap (λ (n : ℕ). sum_of_entries n (width part.group) cell) is.a_code_each
    ∙ ap (λ (w : ℕ). sum_of_entries rows w cell) (same_width _ _ _ _ _ laws is.group)

-- what is read of a whole layout: the part in this place
pub record IsPartRead {G : Type 0} (bits : ℕ) (codes : G → List ℕ) (dictionary : G → List (List ℤ)) (m : TableOf G)
    (q : ℕ) (part : Part G) : Type 0 where
  pub within : q < length (parts_of codes dictionary m.parts)
  pub same : part_at (parts_of codes dictionary m.parts) q ≡ part_of codes dictionary part
  pub is : IsPart bits m.rows (part_of codes dictionary part)
  pub columns : (c : ℕ) → c < length part.columns.items → column_at part.columns.items c < m.cols

pub part_read : {G : Type 0} (bits : ℕ) (codes : G → List ℕ) (dictionary : G → List (List ℤ)) (m : TableOf G)
    (items : List (Part G)) (q : ℕ) (part : Part G)
    → IsWhole bits (layout_of codes dictionary m) → items ≡ m.parts → q < length items → part ≡ get_or items q part →
    IsPartRead bits codes dictionary m q part
part_read {G} bits codes dictionary m items q part whole same there is =
    let parts = parts_of codes dictionary m.parts in
    let here : q < length m.parts = subst (λ (ps : List (Part G)). q < length ps) same there in
    let within : q < length parts = rw (parts_count codes dictionary m.parts) here in
    let item : part ≡ get_or m.parts q part = is ∙ ap (λ (ps : List (Part G)). get_or ps q part) same in
    let at_q : part_at parts q ≡ part_of codes dictionary part =
    part_of_item codes dictionary m.parts q part here item in
    let are : IsPart bits m.rows (part_of codes dictionary part) =
    subst (IsPart bits m.rows) at_q (whole.each q within) in
    record {
      within = within;
      same = at_q;
      is = are;
      columns = λ c place. (let own = own_column (part_of codes dictionary part) c are.rising place in
          own_column_within m.cols parts q (column_at part.columns.items c) whole.partition within (rw at_q own.1));
    }

-- a part has as many rows as codes
pub own_rows : (bits rows : ℕ) (part : LayoutPart) → IsPart bits rows part → IsPart bits (length part.codes) part
own_rows bits rows part is = subst (λ (n : ℕ). IsPart bits n part) (sym is.a_code_each) is

-- all parts are read, where this place is past them
pub all_read : {G : Type 0} (codes : G → List ℕ) (dictionary : G → List (List ℤ)) (m : TableOf G)
    (items : List (Part G)) (q : ℕ)
    → items ≡ m.parts → (q < length items → ⊥) → length (parts_of codes dictionary m.parts) ≤ q
all_read {G} codes dictionary m items q same past =
    let count = parts_count codes dictionary m.parts in
    let long : length items ≡ length m.parts = ap (λ (ps : List (Part G)). length ps) same in
    omega (arith, past, count, long)

-- a sum is that of the same values
pub sum_respects : (f g : ℕ → ℤ) (n : ℕ) (v : ℤ) → ((i : ℕ) → i < n → f i ≡ g i) → v ≡ sum_to f n → v ≡ sum_to g n
sum_respects f g n v same is = is ∙ sum_to-same f g n same

-- the parts before this place, where it is past them
pub parts_read : {G : Type 0} (codes : G → List ℕ) (dictionary : G → List (List ℤ)) (m : TableOf G)
    (items : List (Part G)) (q : ℕ)
    → items ≡ m.parts → (q < length items → ⊥) → take q (parts_of codes dictionary m.parts)
    ≡ parts_of codes dictionary m.parts
parts_read {G} codes dictionary m items q same past =
    take_all q (parts_of codes dictionary m.parts) (all_read codes dictionary m items q same past)
