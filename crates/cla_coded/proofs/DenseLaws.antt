-- What a table's cells are, once all parts are written.
use Rattle.std.proofs.Common.{◌≡◌, true, ℕ, ℤ, ◌+◌, ◌*◌, ◌<◌, ◌≤◌, List, length, cond, ap, sym, ◌∙◌, arith, inl, inr}
use Rattle.std.proofs.Math.Nat.{mul_comm}
use Rattle.std.proofs.lemmas.Bool.{cases_Bool, cases_eq}
use Rattle.cla_spec.specs.Matrix.{Matrix, entry, row_by_row, IsShaped}
use Rattle.cla_layout.specs.Groups.{at}
use Rattle.cla_layout.specs.Layouts.{LayoutPart, part_at, column_at, has_column, layout_with, entry_in, IsWhole}
use Rattle.cla_layout.specs.Layouts.{matrix_as, matrix_in}
use Rattle.cla_coded.specs.declared.dense.Shape.{Shape}
use Rattle.cla_coded.specs.Places.{place_in, IsPartOf, IsPartWritten, AreEntries}
use Rattle.cla_layout.proofs.Wholes.{only_part, some_part, entry_of_part, own_column, own_column_within}
use Rattle.cla_layout.proofs.Matrices.{entry_matrix_in, same_matrix}

-- a part of a whole base
pub part_in : (bits : ℕ) (shape : Shape) (parts : List LayoutPart) (q : ℕ) →
    IsWhole bits (layout_with shape.rows shape.cols parts)
    → q < length parts → IsPartOf bits shape (part_at parts q)
part_in bits shape parts q whole there = record {
  is = whole.each q there;
  columns = λ c place.
      (let own = own_column (part_at parts q) c (whole.each q there).rising place in
      own_column_within shape.cols parts q (column_at (part_at parts q).columns c) whole.partition there own.1);
}

-- the columns of the first n parts are written
abbrev pub PartsWrittenTo : Shape → List LayoutPart → ℕ → List ℤ → Type 0
PartsWrittenTo shape parts n cells = (q i j : ℕ) → q < n → i < shape.rows → j < shape.cols →
    has_column (part_at parts q) j ≡ true
    → at cells (place_in shape i j) ≡ entry_in parts i j

pub parts_step : (bits : ℕ) (shape : Shape) (parts : List LayoutPart) (n : ℕ) (old new : List ℤ)
    → IsWhole bits (layout_with shape.rows shape.cols parts) → n < length parts
    → IsPartWritten shape (part_at parts n) old new → PartsWrittenTo shape parts n old →
    PartsWrittenTo shape parts (n + 1) new
parts_step bits shape parts n old new whole there written so_far q i j lt row col has = elim (cases_eq q n) [
  | inl same ↦
      let here : has_column (part_at parts n) j ≡ true = rw same at has in
      written i j row col ∙ rw here (sym (entry_of_part shape.cols parts n i j whole.partition there col here))
  | inr other ↦ elim (cases_Bool (has_column (part_at parts n) j)) [
    | inl also ↦ absurd
        (other (only_part shape.cols parts q n j whole.partition (grind (arith, lt, other, there)) there col has also))
    | inr elsewhere ↦ written i j row col ∙ rw elsewhere (so_far q i j (grind (arith, lt, other)) row col has)
  ]
]

pub all_written : (bits : ℕ) (shape : Shape) (parts : List LayoutPart) (n : ℕ) (cells : List ℤ)
    → IsWhole bits (layout_with shape.rows shape.cols parts) → length parts ≤ n
    → PartsWrittenTo shape parts n cells → AreEntries shape parts cells
all_written bits shape parts n cells whole all written i j row col =
    let found = some_part shape.cols parts j whole.partition col in
    written found.0 i j (omega (arith, found.1, all)) row col found.2

-- the written cells have the table's shape
pub dense_shape : {X : Type 0} (bits : ℕ) (shape : Shape) (parts : List LayoutPart) (cells : List X) (r c : ℕ)
    → IsWhole bits (layout_with shape.rows shape.cols parts)
    → length cells ≡ shape.rows * shape.cols → r ≡ cond shape.flipped shape.cols shape.rows →
    c ≡ cond shape.flipped shape.rows shape.cols
    → IsShaped r c cells
dense_shape bits shape parts cells r c whole count rows cols = elim (cases_Bool shape.flipped) [
  | inl flipped ↦
      let turned = mul_comm shape.rows shape.cols in
      rw ((rw flipped at rows), (rw flipped at cols))
      (record {
        a_row = whole.a_col;
        a_col = whole.a_row;
        count = omega (arith, count, turned);
        few =
            omega (arith, whole.few, turned);
      })
  | inr plain ↦ rw ((rw plain at rows), (rw plain at cols))
      (record { a_row = whole.a_row; a_col = whole.a_col; count = count; few = whole.few })
]

-- cells that are the values of f, row by row
cells_are : (rows cols r c : ℕ) (cells : List ℤ) (f : ℕ → ℕ → ℤ) → r ≡ rows → c ≡ cols → IsShaped r c cells
    → ((i j : ℕ) → i < rows → j < cols → at cells (i * cols + j) ≡ f i j)
    → ◌≡◌ {A = Matrix} (record { rows = r; cols = c; cells = cells })
    (record { rows = rows; cols = cols; cells = row_by_row rows cols f })
cells_are rows cols r c cells f r_is c_is shaped same =
    let all = same_matrix (record { rows = rows; cols = cols; cells = cells }) f (rw (r_is, c_is) at shaped) same in
    rw (r_is, c_is) (ap (λ (cs : List ℤ). record { rows = rows; cols = cols; cells = cs }) all)

-- and their matrix is that of the table
pub dense_is : (bits : ℕ) (shape : Shape) (parts : List LayoutPart) (cells : List ℤ) (r c : ℕ)
    → IsWhole bits (layout_with shape.rows shape.cols parts) → length cells ≡ shape.rows * shape.cols
    → AreEntries shape parts cells → r ≡ cond shape.flipped shape.cols shape.rows →
    c ≡ cond shape.flipped shape.rows shape.cols
    → record { rows = r; cols = c; cells = cells } ≡ matrix_as shape.flipped (layout_with shape.rows shape.cols parts)
dense_is bits shape parts cells r c whole count written rows cols =
    let base = layout_with shape.rows shape.cols parts in
    let shaped : IsShaped r c cells = dense_shape bits shape parts cells r c whole count rows cols in
    elim (cases_Bool shape.flipped) [
      | inl flipped ↦
          let turned = cells_are shape.cols shape.rows r c cells (λ j i. entry (matrix_in base) i j)
          (rw flipped at rows)
          (rw flipped at cols) shaped (λ j i col row. (rw flipped at (written i j row col))
          ∙ sym (entry_matrix_in base i j row col)) in
          rw flipped turned
      | inr plain ↦
          let same = cells_are shape.rows shape.cols r c cells (entry_in parts) (rw plain at rows) (rw plain at cols)
          shaped (λ i j row col. rw plain at (written i j row col)) in
          rw plain same
    ]
