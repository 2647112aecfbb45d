-- Columns of a matrix as a group: each row's code names the row's tuple.
use Rattle.std.proofs.Common.{◌≡◌, ℕ, ℤ, pos, ◌+◌, ◌*◌, ◌<◌, ◌≤◌, true, ◌==◌, eq-eqb, eqb-true, List, [], ◌∷◌, length}
use Rattle.std.proofs.Common.{map, get_or, refl, sym, ap, subst, ◌∙◌, arith, inl, inr}
use Rattle.std.specs.Prelude.{All}
use Rattle.std.specs.List.{position_or_len, list_any, range_with_len}
use Rattle.std.specs.Ordering.{int_eq}
use Rattle.std.proofs.lemmas.Nat.{pow_pos}
use Rattle.std.proofs.lemmas.Bool.{cases_lt, and_parts, and_from}
use Rattle.std.proofs.lemmas.Bool.Decides.{Decides-int_eq}
use Rattle.std.proofs.lemmas.List.{length-map, get_or-map, get_or_past}
use Rattle.std.proofs.lemmas.List.Elements.{All-get_or}
use Rattle.std.proofs.lemmas.List.FromFn.{length-map-range_with_len}
use Rattle.std.proofs.lemmas.List.Sums.{passes_at_first}
use Rattle.cla_spec.specs.Numbers.{InRange}
use Rattle.cla_spec.specs.Matrix.{Matrix, entry, most_cells, IsWellMade}
use Rattle.cla_layout.specs.declared.kind.Kind.{Kind}
use Rattle.cla_layout.specs.declared.kind.Kind.TheVariants as kind
use Rattle.cla_layout.specs.Canonical.{AreDistinct, HasKind}
use Rattle.cla_layout.specs.Groups.{at, code_of, occurrences_of, AreNumbered, IsGroup}
use Rattle.cla_layout.specs.Layouts.{LayoutPart}
use Rattle.cla_layout.proofs.Counting.{rows_count, code_is, first_row_is}
use Rattle.cla_layout.proofs.Listings.{row_place, rows_of_count}
use Rattle.cla_grouping.specs.Numbering.{first_rows_by}
use Rattle.cla_grouping.specs.Tuples.{AreColumns, same_tuple, tuples_in, tuple_in_row, distinct_tuples}
use Rattle.cla_grouping.proofs.CodeLemmas.{any-item, position-within}
use Rattle.cla_grouping.proofs.FirstRows.{codes_by-numbered}
use Rattle.cla_grouping.proofs.JoinLemmas.{same-code, code-place}
use Rattle.cla_grouping.proofs.Numbered.{tuples_in-are, few-columns, few_cells-in}
use Rattle.cla_grouping.proofs.TupleLemmas.{same_tuple-equiv, length-codes_by}
use Rattle.cla_grouping.proofs.Used.{codes-used}
use Rattle.cla_cocode.specs.Built.{IsBuilt}
use Rattle.cla_pack.specs.Layouts.{part_by}

-- codes and tuples hold these columns: each row's code names its tuple, and each tuple is that of some row
record Hold (m : Matrix) (columns codes : List ℕ) (tuples : List (List ℤ)) : Type 0 where
  rows : length codes ≡ m.rows
  below : (i : ℕ) → i < m.rows → code_of codes i < length tuples
  row : (k : ℕ) → k < length tuples → (i : ℕ) × (i < m.rows) × (code_of codes i ≡ k)
  tuple : (i : ℕ) → i < m.rows → get_or tuples (code_of codes i) [] ≡ tuple_in_row m columns i

-- each tuple is that of a row
tuple_of_row : (m : Matrix) (columns codes : List ℕ) (tuples : List (List ℤ)) (k : ℕ) → Hold m columns codes tuples
    → (lt : k < length tuples) → (i : ℕ) × (i < m.rows) × (get_or tuples k [] ≡ tuple_in_row m columns i)
tuple_of_row m columns codes tuples k h lt =
    let found = h.row k lt in
    (found.0, found.1, ap (λ (l : ℕ). get_or tuples l []) (sym found.2) ∙ h.tuple found.0 found.1)

-- a code that some row has occurs
occurs : (codes : List ℕ) (k i : ℕ) → i < length codes → code_of codes i ≡ k → 0 < occurrences_of codes k
occurs codes k i row is =
    let place = row_place (λ j. code_of codes j == k) (length codes) i row (eq-eqb _ _ is) in
    omega (arith, place.0, rows_of_count codes k)

-- every entry is in range
small_entry : (bits : ℕ) (m : Matrix) (i c : ℕ) → All (InRange bits) m.cells → InRange bits (entry m i c)
small_entry bits m i c small = elim (cases_lt (i * m.cols + c) (length m.cells)) [
  | inl there ↦ All-get_or (InRange bits) m.cells (i * m.cols + c) (pos 0) there small
  | inr past ↦ subst (InRange bits) (sym (get_or_past m.cells (i * m.cols + c) (pos 0) past)) (pow_pos bits)
]

-- the value in a column
value_is : (m : Matrix) (columns : List ℕ) (i c : ℕ) → c < length columns
    → at (tuple_in_row m columns i) c ≡ entry m i (code_of columns c)
value_is m columns i c place = get_or-map (entry m i) columns c 0 (pos 0) place

hold_group : (bits : ℕ) (m : Matrix) (columns codes : List ℕ) (tuples : List (List ℤ)) → IsWellMade bits m
    → AreColumns m.cols columns → Hold m columns codes tuples → IsGroup bits (length columns) codes tuples
hold_group bits m columns codes tuples well are h = record {
  a_row = omega (arith, well.shape.a_row, h.rows);
  a_column = are.some;
  few_cells = subst (λ (n : ℕ). n * length columns ≤ most_cells) (sym h.rows)
      (few_cells-in m (length columns) well.shape (few-columns m.cols columns are));
  in_tuples = λ i row. h.below i (omega (arith, row, h.rows));
  used = λ k lt. (let found = h.row k lt in occurs codes k found.0 (omega (arith, found.1, h.rows)) found.2);
  full = λ k lt.
      let found = tuple_of_row m columns codes tuples k h lt in
      ap (λ (t : List ℤ). length t) found.2 ∙ length-map columns (entry m found.0);
  small = λ k c lt place.
      let found = tuple_of_row m columns codes tuples k h lt in
      subst (InRange bits) (sym (ap (λ (t : List ℤ). at t c) found.2 ∙ value_is m columns found.0 c place))
      (small_entry bits m found.0 (code_of columns c) well.in_range);
}

-- ---- each tuple once

-- rows that are the same have the same tuple
same_tuples : (m : Matrix) (columns : List ℕ) (i j : ℕ) → same_tuple m columns i j ≡ true
    → tuple_in_row m columns i ≡ tuple_in_row m columns j
same_tuples m [] i j h = refl
same_tuples m (c ∷ columns) i j h =
    let both = and_parts (int_eq (entry m i c) (entry m j c)) (same_tuple m columns i j) h in
    ap (λ (v : ℤ). v ∷ tuple_in_row m columns i) ((Decides-int_eq (entry m i c) (entry m j c)).0 both.0)
    ∙ ap (λ (t : List ℤ). entry m j c ∷ t) (same_tuples m columns i j both.1)

-- and no others have
tuples_same : (m : Matrix) (columns : List ℕ) (i j : ℕ) → tuple_in_row m columns i ≡ tuple_in_row m columns j
    → same_tuple m columns i j ≡ true
tuples_same m [] i j h = refl
tuples_same m (c ∷ columns) i j h =
    let first : entry m i c ≡ entry m j c = ap (λ (t : List ℤ). get_or t 0 (pos 0)) h in
    let more : tuple_in_row m columns i ≡ tuple_in_row m columns j = cc in
    and_from (int_eq (entry m i c) (entry m j c)) (same_tuple m columns i j)
    ((Decides-int_eq (entry m i c) (entry m j c)).1 first) (tuples_same m columns i j more)

abbrev first_rows : Matrix → List ℕ → List ℕ
first_rows m columns = first_rows_by (same_tuple m columns) m.rows

pub distinct_count : (m : Matrix) (columns : List ℕ)
    → length (distinct_tuples m columns) ≡ (tuples_in m columns).distinct
distinct_count m columns = length-map (first_rows m columns) (tuple_in_row m columns)

-- the code of a row is the place of the first row that is the same
pub distinct_tuple : (m : Matrix) (columns : List ℕ) (i : ℕ) → i < m.rows
    → get_or (distinct_tuples m columns) (code_of (tuples_in m columns).codes i) [] ≡ tuple_in_row m columns i
distinct_tuple m columns i row =
    let same = same_tuple m columns in
    let is = same_tuple-equiv m columns in
    let firsts = first_rows m columns in
    let found : list_any (same i) firsts ≡ true =
    ap (λ (x : ℕ). list_any (same x) firsts) (sym (code_is m.rows i row))
    ∙ any-item same is [] (range_with_len 0 m.rows) i 0 (omega (arith, row, rows_count m.rows)) in
    let within = position-within (same i) firsts found in
    let place = position_or_len (same i) firsts in
    ap (λ (k : ℕ). get_or (distinct_tuples m columns) k []) (code-place same is m.rows i row)
    ∙ get_or-map (tuple_in_row m columns) firsts place 0 [] within
    ∙ sym (same_tuples m columns i (get_or firsts place 0) (passes_at_first (same i) firsts 0 within))

distinct_hold : (bits : ℕ) (m : Matrix) (columns : List ℕ) → IsWellMade bits m → AreColumns m.cols columns
    → Hold m columns (tuples_in m columns).codes (distinct_tuples m columns)
distinct_hold bits m columns well are =
    let same = same_tuple m columns in
    let is = tuples_in-are m columns well.shape are.some (few-columns m.cols columns are) in
    let count = distinct_count m columns in
    let long = length-codes_by same m.rows in
    record {
      rows = long;
      below = λ i row. omega (arith, is.below i (omega (arith, row, long)), count);
      row = λ k lt.
          let found = codes-used same [] (range_with_len 0 m.rows) k (omega arith) (omega (arith, lt, count)) in
          (found.0, omega (arith, found.1, rows_count m.rows), found.2);
      tuple = λ i row. distinct_tuple m columns i row;
    }

are_distinct : (m : Matrix) (columns : List ℕ) → Hold m columns (tuples_in m columns).codes (distinct_tuples m columns)
    → AreDistinct (distinct_tuples m columns)
are_distinct m columns h k l k_there l_there e =
    let same = same_tuple m columns in
    let i = h.row k k_there in
    let j = h.row l l_there in
    let tuples : tuple_in_row m columns i.0 ≡ tuple_in_row m columns j.0 =
    sym (h.tuple i.0 i.1) ∙ ap (λ (x : ℕ). get_or (distinct_tuples m columns) x []) i.2 ∙ e
    ∙ ap (λ (x : ℕ). get_or (distinct_tuples m columns) x []) (sym j.2) ∙ h.tuple j.0 j.1 in
    sym i.2
    ∙ eqb-true _ _ (same-code same (same_tuple-equiv m columns) m.rows i.0 j.0 i.1 j.1
    ∙ tuples_same m columns i.0 j.0 tuples)
    ∙ j.2

distinct_numbered : (m : Matrix) (columns : List ℕ)
    → AreNumbered (tuples_in m columns).codes (length (distinct_tuples m columns))
distinct_numbered m columns = subst (AreNumbered (tuples_in m columns).codes) (sym (distinct_count m columns))
    (codes_by-numbered (same_tuple m columns) m.rows)

-- ---- a tuple for each row

abbrev row_tuples : Matrix → List ℕ → List (List ℤ)
row_tuples m columns = map (tuple_in_row m columns) (range_with_len 0 m.rows)

row_count : (m : Matrix) (columns : List ℕ) → length (row_tuples m columns) ≡ m.rows
row_count m columns = length-map-range_with_len (tuple_in_row m columns) 0 m.rows

plain_hold : (m : Matrix) (columns : List ℕ) → Hold m columns (range_with_len 0 m.rows) (row_tuples m columns)
plain_hold m columns = record {
  rows = rows_count m.rows;
  below = λ i row. omega (arith, code_is m.rows i row, row, row_count m columns);
  row = λ k lt. (let there : k < m.rows = omega (arith, lt, row_count m columns) in (k, there, code_is m.rows k there));
  tuple = λ i row.
      ap (λ (k : ℕ). get_or (row_tuples m columns) k []) (code_is m.rows i row)
      ∙ get_or-map (tuple_in_row m columns) (range_with_len 0 m.rows) i 0 [] (omega (arith, row, rows_count m.rows))
      ∙ ap (tuple_in_row m columns) (code_is m.rows i row);
}

plain_numbered : (m : Matrix) (columns : List ℕ)
    → AreNumbered (range_with_len 0 m.rows) (length (row_tuples m columns))
plain_numbered m columns k there =
    let next : k + 1 < m.rows = omega (arith, there, row_count m columns) in
    omega (arith, first_row_is m.rows k (omega (arith, next)), first_row_is m.rows (k + 1) next)

-- ---- in each kind

-- a part as a canonical layout has it
pub record IsInKind (bits : ℕ) (m : Matrix) (k : Kind) (part : LayoutPart) : Type 0 where
  pub built : IsBuilt bits m part
  pub numbered : AreNumbered part.codes (length part.tuples)
  pub has_kind : HasKind k part

hold_built : (bits : ℕ) (m : Matrix) (part : LayoutPart) → IsWellMade bits m → AreColumns m.cols part.columns
    → Hold m part.columns part.codes part.tuples → IsBuilt bits m part
hold_built bits m part well are h = record {
  a_code_each = h.rows;
  group = hold_group bits m part.columns part.codes part.tuples well are h;
  entries = λ i c row place.
      ap (λ (t : List ℤ). at t c) (h.tuple i row) ∙ value_is m part.columns i c place;
}

pub in_kind : (bits : ℕ) (m : Matrix) (columns : List ℕ) (k : Kind) → IsWellMade bits m → AreColumns m.cols columns
    → IsInKind bits m k (part_by m columns k)
in_kind bits m columns kind.Plain well are = record {
  built = hold_built bits m (part_by m columns kind.Plain) well are (plain_hold m columns);
  numbered = plain_numbered m columns;
  has_kind = ap (range_with_len 0) (sym (rows_count m.rows));
}
in_kind bits m columns kind.Codes well are =
    let h = distinct_hold bits m columns well are in
    record {
      built = hold_built bits m (part_by m columns kind.Codes) well are h;
      numbered = distinct_numbered m columns;
      has_kind = are_distinct m columns h;
    }
in_kind bits m columns kind.Offsets well are =
    let h = distinct_hold bits m columns well are in
    record {
      built = hold_built bits m (part_by m columns kind.Offsets) well are h;
      numbered = distinct_numbered m columns;
      has_kind = are_distinct m columns h;
    }
in_kind bits m columns kind.Runs well are =
    let h = distinct_hold bits m columns well are in
    record {
      built = hold_built bits m (part_by m columns kind.Runs) well are h;
      numbered = distinct_numbered m columns;
      has_kind = are_distinct m columns h;
    }
