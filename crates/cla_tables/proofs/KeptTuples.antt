-- The tuples of a group that is kept are those of its columns, and its rest is the tuple of zeros.
use Rattle.std.proofs.Common.{◌≡◌, ℕ, ◌<◌, ◌==◌, true, false, Bool, Option, Some, None, List, [], length, get_or}
use Rattle.std.proofs.Common.{refl, sym, ap, subst, ◌∙◌, arith, nat_lt, ltb-true, cond}
use Rattle.std.specs.List.{position_or_len, range_with_len}
use Rattle.std.specs.Prelude.{pos, ℤ}
use Rattle.std.specs.Ordering.{int_eq}
use Rattle.std.proofs.lemmas.List.Folds.{list_all-map}
use Rattle.std.proofs.lemmas.List.FromFn.{length-map-range_with_len}
use Rattle.std.proofs.lemmas.List.Sums.{position_or_len_is}
use Rattle.std.proofs.lemmas.Bool.Decides.{nat_tests}
use Rattle.cla_spec.specs.Matrix.{Matrix, entry}
use Rattle.cla_layout.specs.declared.kind.Kind.{Kind}
use Rattle.cla_layout.specs.declared.kind.Kind.TheVariants as kind
use Rattle.cla_layout.specs.Canonical.{IsCanonical, kind_at}
use Rattle.cla_layout.specs.Groups.{code_of}
use Rattle.cla_layout.specs.Layouts.{LayoutPart, Layout, part_at, matrix_in}
use Rattle.cla_layout.specs.Listed.{is_zero, is_rest, rest_of}
use Rattle.cla_layout.proofs.Counting.{rows_count}
use Rattle.cla_grouping.specs.Numbering.{codes_by}
use Rattle.cla_grouping.specs.Tuples.{TuplesOf, same_tuple, is_zero_row, tuple_in_row, code_where, tuples_in}
use Rattle.cla_grouping.specs.Tuples.{distinct_tuples}
use Rattle.cla_grouping.specs.Sizes.{plain_bytes, bytes_of, figures_of}
use Rattle.cla_grouping.proofs.TupleLemmas.{same_tuple-equiv, zeros-class, class-code, length-codes_by}
use Rattle.cla_grouping.proofs.Used.{codes-used, codes-below}
use Rattle.cla_pack.specs.Layouts.{part_by}
use Rattle.cla_pack.proofs.PartsBy.{distinct_count, distinct_tuple}
use Rattle.cla_pack.proofs.LayoutsBy.{canonical_part_is_by}
use Rattle.cla_tables.specs.KeptStats.{tuples_kept}
use Rattle.cla_tables.specs.Stats.{tuples_by_kind}

-- tuple k is of zeros exactly where code k is that of the tuple of zeros
zero_at : (m : Matrix) (columns : List ℕ) (k : ℕ) → k < length (distinct_tuples m columns)
    → is_zero (get_or (distinct_tuples m columns) k []) ≡ is_rest (tuples_in m columns).zero k
zero_at m columns k there =
    let same = same_tuple m columns in
    let found = codes-used same [] (range_with_len 0 m.rows) k (omega arith)
    (omega (arith, there, distinct_count m columns)) in
    let i = found.0 in
    let row : i < m.rows = omega (arith, found.1, rows_count m.rows) in
    ap (λ (l : ℕ). is_zero (get_or (distinct_tuples m columns) l [])) (sym found.2)
    ∙ ap is_zero (distinct_tuple m columns i row)
    ∙ list_all-map (λ v. int_eq v (pos 0)) (entry m i) columns
    ∙ sym (class-code same (is_zero_row m columns) (same_tuple-equiv m columns) (zeros-class m columns) m.rows i row)
    ∙ ap (is_rest (tuples_in m columns).zero) found.2

-- where this holds of all tuples, the rest is found
rest_found : (codes : List ℕ) (tuples : List (List ℤ)) (zero : Option ℕ)
    → ((k : ℕ) → k < length tuples → is_zero (get_or tuples k []) ≡ is_rest zero k)
    → ((r : ℕ) → zero ≡ Some r → r < length tuples) → rest_of codes tuples ≡ zero
rest_found codes tuples None each within =
    let none =
    position_or_len_is is_zero tuples (length tuples) [] (omega arith) each (λ h. absurd (omega (arith, h))) in
    ap (λ (k : ℕ). cond (nat_lt k (length tuples)) (Some k) None) none
    ∙ ap (λ b. cond b (Some (length tuples)) None) (past (length tuples))
  where
    past : (n : ℕ) → nat_lt n n ≡ false
    past n = grind (arith, nat_tests)
rest_found codes tuples (Some r) each within =
    let there = within r refl in
    let first = position_or_len_is is_zero tuples r [] (omega (arith, there))
    (λ k lt. each k (omega (arith, lt, there)) ∙ other k r lt) (λ h. each r there ∙ same r) in
    ap (λ (k : ℕ). cond (nat_lt k (length tuples)) (Some k) None) first
    ∙ ap (λ b. cond b (Some r) None) (before r (length tuples) there)
  where
    other : (k r : ℕ) → k < r → (k == r) ≡ false
    other k r h = grind (arith, nat_tests)

    same : (r : ℕ) → (r == r) ≡ true
    same r = grind (arith, nat_tests)

    before : (r n : ℕ) → r < n → nat_lt r n ≡ true
    before r n h = grind (arith, nat_tests)

-- the code of a row that passes is that of some row
passing_row : (test : ℕ → Bool) (codes : List ℕ) (k : ℕ) → code_where test codes ≡ Some k
    → (i : ℕ) × (i < length codes) × (code_of codes i ≡ k)
passing_row test codes k e = by (nat_lt (position_or_len test (range_with_len 0 (length codes))) (length codes)) refl
  where
    first : ℕ
    first = position_or_len test (range_with_len 0 (length codes))

    by : (b : Bool) → nat_lt first (length codes) ≡ b → (i : ℕ) × (i < length codes) × (code_of codes i ≡ k)
    by true h =
        let found : Some (code_of codes first) ≡ Some k =
        ap (λ (t : Bool). cond t (Some (code_of codes first)) None) (sym h) ∙ e in
        let same : code_of codes first ≡ k = cc in
        (first, ltb-true first (length codes) h, same)
    by false h =
        let none : None ≡ Some k = ap (λ (t : Bool). cond t (Some (code_of codes first)) None) (sym h) ∙ e in
        absurd cc

zero_within : (m : Matrix) (columns : List ℕ) (r : ℕ) → (tuples_in m columns).zero ≡ Some r
    → r < length (distinct_tuples m columns)
zero_within m columns r is =
    let same = same_tuple m columns in
    let row = passing_row (is_zero_row m columns) (codes_by same m.rows) r is in
    omega (
      arith,
      distinct_count m columns,
      row.2,
      codes-below same [] (range_with_len 0 m.rows) row.0
          (omega (arith, row.1, length-codes_by same m.rows, rows_count m.rows)),
    )

rest_is_zero : (m : Matrix) (columns : List ℕ)
    → rest_of (tuples_in m columns).codes (distinct_tuples m columns) ≡ (tuples_in m columns).zero
rest_is_zero m columns =
    rest_found (tuples_in m columns).codes (distinct_tuples m columns) (tuples_in m columns).zero (zero_at m columns)
    (zero_within m columns)

-- what is told of a part of a matrix in a kind is what is told of its columns
abbrev pub IsTold : Matrix → List ℕ → Kind → LayoutPart → Type 0
IsTold m columns k part = (length part.tuples ≡ tuples_by_kind k m columns)
    × (bytes_of k (figures_of (tuples_kept part)) ≡ bytes_of k (figures_of (tuples_in m columns)))

abbrev tuples_made : ℕ → ℕ → List ℕ → Option ℕ → TuplesOf
tuples_made width distinct codes zero = record { width = width; distinct = distinct; codes = codes; zero = zero }

same_tuples : (m : Matrix) (columns : List ℕ)
    → tuples_made (length columns) (length (distinct_tuples m columns)) (tuples_in m columns).codes
    (rest_of (tuples_in m columns).codes (distinct_tuples m columns)) ≡ tuples_in m columns
same_tuples m columns = λ i.
    tuples_made (length columns) (distinct_count m columns i) (tuples_in m columns).codes (rest_is_zero m columns i)

pub told_in_kind : (m : Matrix) (columns : List ℕ) (k : Kind) → IsTold m columns k (part_by m columns k)
told_in_kind m columns kind.Plain = (
  length-map-range_with_len (tuple_in_row m columns) 0 m.rows,
  ap (λ (rows : ℕ). plain_bytes rows (length columns))
      (rows_count m.rows ∙ sym (length-codes_by (same_tuple m columns) m.rows)),
)
told_in_kind m columns kind.Codes =
    (distinct_count m columns, ap (λ (t : TuplesOf). bytes_of kind.Codes (figures_of t)) (same_tuples m columns))
told_in_kind m columns kind.Offsets =
    (distinct_count m columns, ap (λ (t : TuplesOf). bytes_of kind.Offsets (figures_of t)) (same_tuples m columns))
told_in_kind m columns kind.Runs =
    (distinct_count m columns, ap (λ (t : TuplesOf). bytes_of kind.Runs (figures_of t)) (same_tuples m columns))

pub told_of_part : (bits : ℕ) (layout : Layout) (kinds : List Kind) (q : ℕ) → IsCanonical bits layout kinds
    → q < length layout.parts
    → IsTold (matrix_in layout) (part_at layout.parts q).columns (kind_at kinds q) (part_at layout.parts q)
told_of_part bits layout kinds q is there =
    let m = matrix_in layout in
    let part = part_at layout.parts q in
    subst (IsTold m part.columns (kind_at kinds q)) (sym (canonical_part_is_by bits layout kinds q is there))
    (told_in_kind m part.columns (kind_at kinds q))
