-- The tuples of columns by their entries.
use Rattle.std.proofs.Common.{◌≡◌, ℕ, ℤ, pos, suc, ◌+◌, ◌<◌, ◌≤◌, ◌&&◌, Bool, true, false, List, [], ◌∷◌, ◌++◌, map}
use Rattle.std.proofs.Common.{length, get_or, refl, sym, ap, ◌∙◌, arith, Vec, mul-le-mul_left}
use Rattle.std.specs.Ordering.{int_eq}
use Rattle.std.specs.declared.alloc.Global.{Global}
use Rattle.std.proofs.lemmas.List.{length-map, length_push, get_or-map}
use Rattle.std.proofs.lemmas.List.FromFn.{length-map-range_with_len, get_or-map-range_with_len, map-range_with_len_more}
use Rattle.cla_spec.specs.Matrix.{Matrix, IsShaped, entry, most_cells}
use Rattle.cla_grouping.specs.Tuples.{TuplesOf, AreTuples, is_zero_row, tuples_in}
use Rattle.cla_grouping.proofs.Numbered.{tuples_in-are}
use Rattle.cla_numbering.specs.Columns.{column_of, AreGathered}
use Rattle.cla_stats.specs.Coded.{is_zero_at, tuples_of_each}

-- there are as many entries as rows
pub entries-count : {N : Type 0} (value : N → ℤ) (m : Matrix) (c : ℕ) (items : List N) → map value items ≡ column_of m c
    → length items ≡ m.rows
entries-count value m c items e =
    sym (length-map items value) ∙ ap length e ∙ length-map-range_with_len (λ i. entry m i c) 0 m.rows

pub shaped : {N : Type 0} (value : N → ℤ) (m : Matrix) (cells : List N) → map value cells ≡ m.cells
    → IsShaped m.rows m.cols cells → IsShaped m.rows m.cols m.cells
shaped value m cells e shape = record {
  a_row = shape.a_row;
  a_col = shape.a_col;
  count = ap length (sym e) ∙ length-map cells value ∙ shape.count;
  few = shape.few;
}

pub few-rows : (m : Matrix) → IsShaped m.rows m.cols m.cells → m.rows ≤ most_cells
few-rows m shape = omega (arith, mul-le-mul_left m.rows shape.a_col, shape.few)

-- the tuples of one column are tuples
pub column-are : (m : Matrix) (c : ℕ) → IsShaped m.rows m.cols m.cells → AreTuples (tuples_in m (c ∷ []))
column-are m c shape = tuples_in-are m (c ∷ []) shape (omega arith) shape.a_col

and_true : (b : Bool) → (b && true) ≡ b
and_true true = refl
and_true false = refl

-- an entry of a column is 0 exactly where its row is zero there
pub zero-row : (values : List ℤ) (m : Matrix) (c i : ℕ) → values ≡ column_of m c → i < m.rows
    → is_zero_at values i ≡ is_zero_row m (c ∷ []) i
zero-row values m c i e row =
    ap (λ l. int_eq (get_or l i (pos 0)) (pos 0)) e
    ∙ ap (λ v. int_eq v (pos 0)) (get_or-map-range_with_len (λ j. entry m j c) 0 m.rows i i (pos 0) row (omega arith))
    ∙ sym (and_true (int_eq (entry m i c) (pos 0)))

pub entry-zero : {N : Type 0} (value : N → ℤ) (items : List N) (i : ℕ) (x : N) → i < length items → x ≡ get_or items i x
    → is_zero_at (map value items) i ≡ int_eq (value x) (pos 0)
entry-zero value items i x there is =
    ap (λ v. int_eq v (pos 0)) (get_or-map value items i x (pos 0) there ∙ ap value (sym is))

-- one more column is counted
pub each-more : (m : Matrix) (first : ℕ) (old new : List TuplesOf) (t : TuplesOf)
    → old ≡ tuples_of_each m first (length old)
    → new ≡ old ++ t ∷ [] → t ≡ tuples_in m ((first + length old) ∷ []) → new ≡ tuples_of_each m first (length new)
each-more m first old new t is push tuple =
    let one = ap length push ∙ length_push old t in
    push ∙ ap (λ l. l ++ t ∷ []) is ∙ ap (λ u. tuples_of_each m first (length old) ++ u ∷ []) tuple
    ∙ sym (map-range_with_len_more (λ c. tuples_in m (c ∷ [])) first (length old) (first + length old) refl)
    ∙ ap (tuples_of_each m first) (sym one)

-- the entries of the next column, and those of the others
module _ {N : Type 0} (value : N → ℤ) (m : Matrix) (first : ℕ) (rest after : List (Vec N Global)) (x : Vec N Global)
    (next : rest ≡ x ∷ after) (are : AreGathered value m first (λ _. m.rows) rest) where
  pub next-entries : map value x.items ≡ column_of m first
  next-entries =
      let same : first + 0 ≡ first = omega arith in
      ap (λ l. map value (get_or l 0 x).items) (sym next) ∙ are 0 x (omega (arith, ap length next))
      ∙ ap (column_of m) same

  pub after-entries : AreGathered value m (first + 1) (λ _. m.rows) after
  after-entries q d h =
      let same : first + suc q ≡ first + 1 + q = omega arith in
      ap (λ l. map value (get_or l (suc q) d).items) (sym next) ∙ are (suc q) d (omega (arith, h, ap length next))
      ∙ ap (column_of m) same
