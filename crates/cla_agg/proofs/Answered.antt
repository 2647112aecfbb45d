-- From exact cells to answers.
use Rattle.std.proofs.Common.{◌≡◌, ℕ, ℤ, pos, ◌+◌, ◌*◌, ◌/◌, ◌%◌, ◌^◌, ◌<◌, ◌≤◌, zero, suc, true, false, List, length}
use Rattle.std.proofs.Common.{map, take, Some, None, Result, Ok, Err, refl, ap, subst, sym, ◌∙◌, arith, inl, inr}
use Rattle.std.proofs.lemmas.Bool.{cases_lt, lt-ltb, le-ltb}
use Rattle.std.proofs.lemmas.List.{length-map, length-take-le, get_or-take, ext_get_or}
use Rattle.std.proofs.lemmas.Nat.{div-add-mod'}
use Rattle.std.proofs.Math.Nat.{div-lt_iff_lt-mul}
use Rattle.std.specs.Int.RustNames.{unsigned_abs}
use Rattle.std.specs.List.{range_with_len}
use Rattle.std.specs.Prelude.{IfOk}
use Rattle.cla_spec.specs.Numbers.{InRange}
use Rattle.cla_spec.specs.Matrix.{Matrix, IsShaped, row_by_row, most_cells}
use Rattle.cla_spec.proofs.Entries.{cell_within, row_by_row-at, row_by_row-count, row_by_row-same}
use Rattle.cla_num.specs.declared.fault.What.{What}
use Rattle.cla_num.specs.declared.fault.What.TheVariants.{Range}
use Rattle.cla_num.specs.declared.fault.Refused.{Refused}
use Rattle.cla_num.specs.declared.fault.Refused.TheVariants.{Op, Memory}
use Rattle.cla_num.specs.Fault.{cell_fault, fault_at, first_fault, fault_of, exactly}
use Rattle.cla_layout.specs.Groups.{at}
use Rattle.cla_layout.specs.GroupLaws.{IsExtreme}
use Rattle.cla_layout.proofs.Tuples.{item_holds}
use Rattle.cla_meaning.specs.Answers.{AnswersMatrix}
use Rattle.cla_meaning.specs.Entries.{Entry}
use Rattle.cla_meaning.proofs.Faults.{no_fault, fault_is}
use Rattle.cla_agg.specs.Lines.{IsLine, HasCells, AreRowExtremes, AreColExtremes}

good : (bits : ℕ) (v : ℤ) → InRange bits v → cell_fault bits (Some v) ≡ None
good bits v within = rw (lt-ltb (unsigned_abs v) (2 ^ bits) within) refl

bad : (bits : ℕ) (v : ℤ) → (InRange bits v → ⊥) → cell_fault bits (Some v) ≡ Some (Range v)
bad bits v out = elim (cases_lt (unsigned_abs v) (2 ^ bits)) [
  | inl lt ↦ absurd (out lt)
  | inr ge ↦ rw (le-ltb (unsigned_abs v) (2 ^ bits) ge) refl
]

none_of : (what : What) → None ≡ Some what → ⊥
none_of what same = cc

-- cells by their rows and columns
abbrev pub cells_at : ℕ → List ℤ → Entry
cells_at cols cells i j = at cells (i * cols + j)

pub all_numbers : (bits rows cols : ℕ) (cells : List ℤ) → IsShaped rows cols cells
    → ((p : ℕ) → p < length cells → InRange bits (at cells p)) → fault_of bits rows cols (exactly (cells_at cols cells))
    ≡ None
all_numbers bits rows cols cells shape ranged =
    no_fault bits rows cols (exactly (cells_at cols cells)) shape.a_col (λ i j row col.
    good bits (at cells (i * cols + j))
    (ranged (i * cols + j) (omega (arith, shape.count, cell_within rows cols i j row col))))

pub first_out : (bits rows cols : ℕ) (cells : List ℤ) (p : ℕ) → IsShaped rows cols cells → p < length cells
    → ((q : ℕ) → q < p → InRange bits (at cells q)) → (InRange bits (at cells p) → ⊥)
    → fault_of bits rows cols (exactly (cells_at cols cells)) ≡ Some (fault_at cols p (Range (at cells p)))
first_out bits rows cols cells p shape there before out =
    let whole : p / cols * cols + p % cols ≡ p = div-add-mod' p cols in
    let within : p < rows * cols = omega (arith, there, shape.count) in
    let fails : cell_fault bits (Some (at cells (p / cols * cols + p % cols))) ≡ Some (Range (at cells p)) =
    ap (λ (q : ℕ). cell_fault bits (Some (at cells q))) whole ∙ bad bits (at cells p) out in
    fault_is bits rows cols (exactly (cells_at cols cells)) (p / cols) (p % cols) (Range (at cells p)) shape.a_col
    (record {
      row = (div-lt_iff_lt-mul shape.a_col).1 within;
      col = omega (arith, shape.a_col);
      faulty = fails;
      least = λ r c w row col wrong. elim (cases_lt (r * cols + c) p) [
        | inl early ↦ absurd (none_of w (sym (good bits (at cells (r * cols + c)) (before (r * cols + c) early))
            ∙ wrong))
        | inr late ↦ omega (arith, late, whole)
      ];
    })
    ∙ ap (λ (q : ℕ). Some (fault_at cols q (Range (at cells p)))) whole

-- numbers that are kept so far
pub kept_ranged : {N : Type 0} (bits : ℕ) (value : N → ℤ) → ((x : N) → InRange bits (value x))
    → (numbers : List N) (cells : List ℤ) (p : ℕ) → p ≤ length cells → map value numbers ≡ take p cells
    → (q : ℕ) → q < p → InRange bits (at cells q)
kept_ranged bits value in_range numbers cells p within kept q before =
    let count : length numbers ≡ p = sym (length-map numbers value) ∙ ap (λ (xs : List ℤ). length xs) kept
    ∙ length-take-le p cells within in
    let is : at (map value numbers) q ≡ at cells q = ap (λ (xs : List ℤ). at xs q) kept
    ∙ get_or-take p cells q (pos 0) before in
    rw is at (item_holds value (InRange bits) in_range numbers q (omega (arith, before, count)))

pub not_true : false ≡ true → ⊥
not_true same = cc

-- cells are those of their rows and columns
pub cells_are : (rows cols : ℕ) (cells : List ℤ) → IsShaped rows cols cells →
    cells ≡ row_by_row rows cols (cells_at cols cells)
cells_are rows cols cells shape =
    ext_get_or (pos 0) cells (row_by_row rows cols (cells_at cols cells))
    (shape.count ∙ sym (row_by_row-count rows cols (cells_at cols cells)))
    (λ p lt. (let there : p < rows * cols = rw shape.count at lt in
    ap (at cells) (sym (div-add-mod' p cols)) ∙ sym (row_by_row-at rows cols (cells_at cols cells) p (pos 0) there)))

-- the same cells stand in the same list
same_cells : {X : Type 0} (rows cols : ℕ) (f g : ℕ → ℕ → X) (d : X) → ((i j : ℕ) → i < rows → j < cols → f i j ≡ g i j)
    → row_by_row rows cols f ≡ row_by_row rows cols g
same_cells rows zero f g d same =
    let none : rows * zero ≡ zero = omega arith in
    ap (λ (n : ℕ). map (λ p. f (p / zero) (p % zero)) (range_with_len 0 n)) none
    ∙ sym (ap (λ (n : ℕ). map (λ p. g (p / zero) (p % zero)) (range_with_len 0 n)) none)
same_cells rows (suc n) f g d same = row_by_row-same rows (suc n) f g d (omega arith) same

same_fault : (bits rows cols : ℕ) (f g : Entry) → ((i j : ℕ) → i < rows → j < cols → f i j ≡ g i j)
    → fault_of bits rows cols (exactly f) ≡ fault_of bits rows cols (exactly g)
same_fault bits rows cols f g same =
    ap (first_fault bits cols)
    (same_cells rows cols (exactly f) (exactly g) None (λ i j row col. ap (λ (v : ℤ). Some v) (same i j row col)))

-- the same exact entries have the same answer
pub answer_same : (bits rows cols : ℕ) (f g : Entry) (result : Result Matrix Refused)
    → ((i j : ℕ) → i < rows → j < cols → f i j ≡ g i j) → AnswersMatrix bits rows cols f result →
    AnswersMatrix bits rows cols g result
answer_same bits rows cols f g (Ok m) same answer = (
  answer.0 ∙ ap (λ (cells : List ℤ). record { rows = rows; cols = cols; cells = cells })
      (same_cells rows cols f g (pos 0) same),
  sym (same_fault bits rows cols f g same) ∙ answer.1,
)
answer_same bits rows cols f g (Err (Op fault)) same answer = sym (same_fault bits rows cols f g same) ∙ answer
answer_same bits rows cols f g (Err Memory) same answer = tt

-- sums as one row, and as one column
pub answer_row : (bits cols n : ℕ) (line : ℕ → ℤ) (result : Result Matrix Refused) → n ≡ cols
    → AnswersMatrix bits 1 n (λ i j. line (i * n + j)) result → AnswersMatrix bits 1 cols (λ i j. line j) result
answer_row bits cols n line result is answer =
    subst (λ (m : ℕ). AnswersMatrix bits 1 m (λ i j. line j) result) is
    (answer_same bits 1 n (λ i j. line (i * n + j)) (λ i j. line j) result
    (λ i j row col. (let first : i ≡ 0 = omega (arith, row) in ap line (rw first (omega arith)))) answer)

pub answer_column : (bits rows n : ℕ) (line : ℕ → ℤ) (result : Result Matrix Refused) → n ≡ rows
    → AnswersMatrix bits n 1 (λ i j. line (i * 1 + j)) result → AnswersMatrix bits rows 1 (λ i j. line i) result
answer_column bits rows n line result is answer =
    subst (λ (m : ℕ). AnswersMatrix bits m 1 (λ i j. line i) result) is
    (answer_same bits n 1 (λ i j. line (i * 1 + j)) (λ i j. line i) result
    (λ i j row col. (let place : i * 1 + j ≡ i = omega (arith, col) in ap line place)) answer)

-- extremes as one column, and as one row
pub row_extremes : (Before : ℤ → ℤ → Type 0) (n rows cols : ℕ) (a : Entry) (d : Matrix) → n ≡ rows
    → HasCells (λ p v. IsExtreme Before (a p) cols v) n 1 d → AreRowExtremes Before rows cols a d
row_extremes Before n rows cols a d is has = record {
  height = has.height ∙ is;
  width = has.width;
  each = λ i lt. (let place : i ≡ i * d.cols + 0 = rw has.width (omega arith) in
      subst (IsExtreme Before (a i) cols) (ap (at d.cells) place) (has.each i (omega (arith, lt, is))));
}

pub col_extremes : (Before : ℤ → ℤ → Type 0) (n rows cols : ℕ) (a : Entry) (d : Matrix) → n ≡ cols
    → HasCells (λ p v. IsExtreme Before (λ i. a i p) rows v) 1 n d → AreColExtremes Before rows cols a d
col_extremes Before n rows cols a d is has = record {
  height = has.height;
  width = has.width ∙ is;
  each = λ j lt. (let place : j ≡ 0 * d.cols + j = omega arith in
      subst (IsExtreme Before (λ i. a i j) rows) (ap (at d.cells) place) (has.each j (omega (arith, lt, is))));
}

pub if_ok : {E : Type 0} (P Q : Matrix → Type 0) (result : Result Matrix E) → ((d : Matrix) → P d → Q d) →
    IfOk result P → IfOk result Q
if_ok P Q (Ok d) more holds = more d holds
if_ok P Q (Err e) more holds = tt

-- the places of a line are those of its cells
pub line_place : (n rows cols i j : ℕ) → IsLine n rows cols → i < rows → j < cols → i * cols + j < n
line_place n rows cols i j (inl (one, is)) row col =
    let first : i ≡ 0 = omega (arith, one, row) in
    let place : i * cols + j ≡ j = rw first (omega arith) in
    omega (arith, place, is, col)
line_place n rows cols i j (inr (is, one)) row col =
    let place : i * cols + j ≡ i = rw one (omega (arith, one, col)) in
    omega (arith, place, is, row)

pub line_count : (n rows cols : ℕ) → IsLine n rows cols → rows * cols ≡ n
line_count n rows cols (inl (one, is)) = rw one (omega (arith, is))
line_count n rows cols (inr (is, one)) = rw one (omega (arith, is))

pub line_shape : {X : Type 0} (n rows cols : ℕ) (cells : List X) → 1 ≤ n → n ≤ most_cells → IsLine n rows cols →
    length cells ≡ rows * cols
    → IsShaped rows cols cells
line_shape n rows cols cells some few (inl (one, is)) count =
    record {
      a_row = omega (arith, one);
      a_col = omega (arith, is, some);
      count = count;
      few = omega (arith, line_count n rows cols (inl (one, is)), few);
    }
line_shape n rows cols cells some few (inr (is, one)) count =
    record {
      a_row = omega (arith, is, some);
      a_col = omega (arith, one);
      count = count;
      few = omega (arith, line_count n rows cols (inr (is, one)), few);
    }
