-- Groups that are built of the tuples of columns hold the entries of the columns.
use Rattle.std.proofs.Common.{◌≡◌, ℕ, ℤ, pos, zero, suc, ◌+◌, ◌-◌, ◌*◌, ◌/◌, ◌<◌, ◌≤◌, Bool, true, false, ◌&&◌, ◌==◌}
use Rattle.std.proofs.Common.{eq-eqb, List, [], ◌∷◌, ◌++◌, length, refl, sym, ap, ◌∙◌, subst, arith, length-append, inl}
use Rattle.std.proofs.Common.{inr}
use Rattle.std.specs.List.{range_with_len}
use Rattle.std.specs.Ordering.{int_eq}
use Rattle.std.proofs.lemmas.Bool.{cases_lt}
use Rattle.std.proofs.lemmas.List.{length-map, get_or-map, get_or_append_left, get_or-append_right, get_or_push}
use Rattle.cla_layout.specs.Layouts.{LayoutPart, part_at, no_part}
use Rattle.std.proofs.lemmas.List.FromFn.{length-range_with_len}
use Rattle.std.proofs.lemmas.Nat.{div-mul-add}
use Rattle.std.proofs.lemmas.Bool.Decides.{Decides-int_eq}
use Rattle.cla_spec.specs.Matrix.{Matrix, entry}
use Rattle.cla_layout.specs.Groups.{at, code_of, cell_of, occurrences_of, first_row_of}
use Rattle.cla_layout.specs.Tuples.{tuples_of, AreCodes}
use Rattle.cla_layout.specs.declared.kind.Kind.{Kind}
use Rattle.cla_layout.specs.declared.kind.Kind.TheVariants as kind
use Rattle.cla_layout.proofs.Listings.{row_place, rows_of_count}
use Rattle.cla_layout.proofs.Counting.{rows_count}
use Rattle.cla_layout.proofs.Regroup.{first_row_there, code_of_first_row}
use Rattle.cla_layout.proofs.Tuples.{tuple_value}
use Rattle.cla_rows.specs.Counted.{AreCounted}
use Rattle.cla_coded.specs.AnyGroups.{HasCodes}
use Rattle.cla_grouping.specs.Numbering.{codes_by}
use Rattle.cla_grouping.specs.Tuples.{AreTuples, tuples_in, tuple_in_row, same_tuple}
use Rattle.cla_grouping.proofs.JoinLemmas.{same-code}
use Rattle.cla_grouping.proofs.TupleLemmas.{same_tuple-equiv, length-codes_by}
use Rattle.cla_grouping.proofs.Used.{codes-used}
use Rattle.cla_cocode.specs.Built.{values_in_rows, HasEntries}

and_left : (a b : Bool) → (a && b) ≡ true → a ≡ true
and_left true b h = refl
and_left false b h = h

and_right : (a b : Bool) → (a && b) ≡ true → b ≡ true
and_right true b h = h
and_right false b h = absurd (cc)

-- a code that some row has occurs
occurs : (codes : List ℕ) (k i : ℕ) → i < length codes → code_of codes i ≡ k → 0 < occurrences_of codes k
occurs codes k i row is =
    let place = row_place (λ j. code_of codes j == k) (length codes) i row (eq-eqb _ _ is) in
    omega (arith, place.0, rows_of_count codes k)

-- each tuple is the code of some row
pub used : (m : Matrix) (columns : List ℕ) (k : ℕ) → k < (tuples_in m columns).distinct
    → 0 < occurrences_of (tuples_in m columns).codes k
used m columns k there =
    let same = same_tuple m columns in
    let row = codes-used same [] (range_with_len 0 m.rows) k (omega arith) there in
    occurs (codes_by same m.rows) k row.0
    (omega (arith, row.1, length-range_with_len 0 m.rows, length-codes_by same m.rows)) row.2

-- the first rows are rows
pub first_rows-within : (m : Matrix) (columns counts rows : List ℕ)
    → AreCounted (tuples_in m columns).codes (tuples_in m columns).distinct counts rows
    → (k : ℕ) → k < length rows → code_of rows k < m.rows
first_rows-within m columns counts rows are k there =
    let codes = (tuples_in m columns).codes in
    let lt : k < (tuples_in m columns).distinct = omega (arith, there, are.a_row_each) in
    let row = first_row_there codes k (used m columns k lt) in
    omega (arith, are.first_row k lt, row, length-codes_by (same_tuple m columns) m.rows)

-- there are as many values as columns in each row
pub values-count : (m : Matrix) (columns rows : List ℕ) → length (values_in_rows m columns rows)
    ≡ length rows * length columns
values-count m columns [] = omega arith
values-count m columns (row ∷ rows) =
    length-append (tuple_in_row m columns row) (values_in_rows m columns rows)
    ∙ ap (λ n. n + length (values_in_rows m columns rows)) (length-map columns (entry m row))
    ∙ ap (λ n. length columns + n) (values-count m columns rows)
    ∙ more (length rows) (length columns)
  where
    more : (n w : ℕ) → w + n * w ≡ suc n * w
    more n w = grind arith

-- where they stand
pub values-at : (m : Matrix) (columns rows : List ℕ) (k c : ℕ) → k < length rows → c < length columns
    → at (values_in_rows m columns rows) (k * length columns + c) ≡ entry m (code_of rows k) (code_of columns c)
values-at m columns [] k c there place = absurd (omega (arith, there))
values-at m columns (row ∷ rows) zero c there place =
    let first = tuple_in_row m columns row in
    let count : length first ≡ length columns = length-map columns (entry m row) in
    let here : 0 * length columns + c ≡ c = omega arith in
    ap (at (values_in_rows m columns (row ∷ rows))) here
    ∙ get_or_append_left first (values_in_rows m columns rows) (pos 0) c (omega (arith, count, place))
    ∙ get_or-map (entry m row) columns c 0 (pos 0) place
values-at m columns (row ∷ rows) (suc k) c there place =
    let first = tuple_in_row m columns row in
    let count : length first ≡ length columns = length-map columns (entry m row) in
    get_or-append_right first (values_in_rows m columns rows) (length columns) (suc k * length columns + c)
    (pos 0) count (past k (length columns) c)
    ∙ ap (at (values_in_rows m columns rows)) (less k (length columns) c)
    ∙ values-at m columns rows k c (omega (arith, there)) place
  where
    past : (k w c : ℕ) → w ≤ suc k * w + c
    past k w c = grind arith

    less : (k w c : ℕ) → suc k * w + c - w ≡ k * w + c
    less k w c = grind arith

-- rows with the same tuple have the same entries
same-entry : (m : Matrix) (columns : List ℕ) (i j c : ℕ) → same_tuple m columns i j ≡ true → c < length columns
    → entry m i (code_of columns c) ≡ entry m j (code_of columns c)
same-entry m [] i j c h place = absurd (omega (arith, place))
same-entry m (column ∷ columns) i j zero h place = (Decides-int_eq (entry m i column) (entry m j column)).0
    (and_left _ _ h)
same-entry m (column ∷ columns) i j (suc c) h place =
    same-entry m columns i j c (and_right (int_eq (entry m i column) (entry m j column)) _ h) (omega (arith, place))

-- the values of first rows are those of all rows
pub cells-are : (m : Matrix) (columns counts rows : List ℕ) (n : ℕ) (values : List ℤ) → AreTuples (tuples_in m columns)
    → AreCounted (tuples_in m columns).codes (tuples_in m columns).distinct counts rows → values
    ≡ values_in_rows m columns rows → n ≡ (tuples_in m columns).distinct
    → HasEntries m columns (tuples_in m columns).codes (tuples_of (length columns) n values)
cells-are m columns counts rows n values are counted is count i c row place =
    let same = same_tuple m columns in
    let codes = (tuples_in m columns).codes in
    let long = length-codes_by same m.rows in
    let k = code_of codes i in
    let below : k < (tuples_in m columns).distinct = are.below i (omega (arith, row, long)) in
    let some = used m columns k below in
    let first = first_row_of codes k in
    let there : first < m.rows = omega (arith, first_row_there codes k some, long) in
    let alike : same first i ≡ true = sym (same-code same (same_tuple-equiv m columns) m.rows first i there row)
    ∙ eq-eqb _ _ (code_of_first_row codes k some) in
    tuple_value (length columns) n values k c (omega (arith, below, count)) place
    ∙ ap (λ v. at v (k * length columns + c)) is
    ∙ values-at m columns rows k c (omega (arith, below, counted.a_row_each)) place
    ∙ ap (λ r. entry m r (code_of columns c)) (counted.first_row k below)
    ∙ same-entry m columns first i c alike place

-- the number of values by the number of tuples
pub tuples-count : (d w n : ℕ) → 1 ≤ w → n ≡ d * w → n / w ≡ d
tuples-count d w n some is = ap (λ x. x / w) (omega (arith, is)) ∙ div-mul-add d w 0 some

pub are-codes : (m : Matrix) (columns : List ℕ) (n : ℕ) → AreTuples (tuples_in m columns) → n
    ≡ (tuples_in m columns).distinct * length columns
    → AreCodes (length columns) (n / length columns) (tuples_in m columns).codes n
are-codes m columns n are is =
    let count = tuples-count (tuples_in m columns).distinct (length columns) n are.a_column is in
    record {
      a_row = are.a_row;
      a_column = are.a_column;
      few_cells = are.few_cells;
      whole = is ∙ ap (λ d. d * length columns) (sym count);
      in_tuples = λ i row. omega (arith, are.below i row, count);
      used = λ k there. used m columns k (omega (arith, there, count));
    }

-- a group of these codes has as many rows, and the same cells
pub has-rows : (k : Kind) (codes : List ℕ) (tuples : List (List ℤ)) (codes' : List ℕ) (tuples' : List (List ℤ))
    (width : ℕ)
    → HasCodes k codes tuples codes' tuples' width → length codes' ≡ length codes
has-rows kind.Plain codes tuples codes' tuples' width has = ap length has.0 ∙ rows_count (length codes)
has-rows kind.Codes codes tuples codes' tuples' width has = ap length has.0
has-rows kind.Offsets codes tuples codes' tuples' width has = ap length has.0
has-rows kind.Runs codes tuples codes' tuples' width has = ap length has.0

same-cells : (codes : List ℕ) (tuples : List (List ℤ)) (codes' : List ℕ) (tuples' : List (List ℤ)) (i c : ℕ) → codes'
    ≡ codes → tuples' ≡ tuples
    → cell_of codes' tuples' i c ≡ cell_of codes tuples i c
same-cells codes tuples codes' tuples' i c h k = ap (λ x. cell_of x tuples' i c) h ∙ ap (λ t. cell_of codes t i c) k

pub has-cells : (k : Kind) (codes : List ℕ) (tuples : List (List ℤ)) (codes' : List ℕ) (tuples' : List (List ℤ))
    (width i c : ℕ)
    → HasCodes k codes tuples codes' tuples' width → i < length codes → c < width → cell_of codes' tuples' i c
    ≡ cell_of codes tuples i c
has-cells kind.Plain codes tuples codes' tuples' width i c has row place = has.1 i c row place
has-cells kind.Codes codes tuples codes' tuples' width i c has row place =
    same-cells codes tuples codes' tuples' i c has.0 has.1
has-cells kind.Offsets codes tuples codes' tuples' width i c has row place =
    same-cells codes tuples codes' tuples' i c has.0 has.1
has-cells kind.Runs codes tuples codes' tuples' width i c has row place =
    same-cells codes tuples codes' tuples' i c has.0 has.1

-- one more part
pub built-push : (P : LayoutPart → Type 0) (parts : List LayoutPart) (p : LayoutPart)
    → ((q : ℕ) → q < length parts → P (part_at parts q)) → P p
    → (q : ℕ) → q < length (parts ++ p ∷ []) → P (part_at (parts ++ p ∷ []) q)
built-push P parts p each last q there = elim (cases_lt q (length parts)) [
  | inl inner ↦ subst P (sym (get_or_append_left parts (p ∷ []) no_part q inner)) (each q inner)
  | inr past ↦
      let end : length parts ≡ q = omega (arith, there, past, length-append parts (p ∷ [])) in
      subst P (sym (get_or_push parts p no_part q end)) last
]
