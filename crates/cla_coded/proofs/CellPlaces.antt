-- Places of the entries of a base among the cells of a table, and what writing a row does.
use Rattle.std.proofs.Common.{◌≡◌, Bool, true, false, ℕ, ℤ, pos, ◌+◌, ◌*◌, ◌/◌, ◌%◌, ◌<◌, List, length, set, cond}
use Rattle.std.proofs.Common.{eqb, ltb, ◌&&◌, refl}
use Rattle.std.proofs.Common.{ap, sym, ◌∙◌, arith, inl, inr}
use Rattle.std.proofs.Math.Nat.{mul_comm}
use Rattle.std.proofs.lemmas.Bool.{cases_Bool, cases_eq, cases_lt, eq-eqb, ne_eqb, lt-ltb, le-ltb}
use Rattle.std.proofs.lemmas.Nat.{div-mul-add, mod-mul-add}
use Rattle.std.proofs.lemmas.List.{get_or-set_same, get_or-set_other}
use Rattle.cla_spec.proofs.Entries.{cell_within}
use Rattle.cla_layout.specs.Groups.{at, code_of, first_row_of}
use Rattle.cla_layout.proofs.Regroup.{code_of_first_row}
use Rattle.cla_coded.specs.declared.dense.Shape.{Shape}
use Rattle.cla_layout.specs.Layouts.{LayoutPart, IsPart, column_at, index_of, has_column}
use Rattle.cla_coded.specs.Places.{place_in, IsRowWritten, AreRowsWritten}
use Rattle.cla_layout.proofs.Columns.{Rise, place_of_column}
use Rattle.cla_rows.proofs.OwnRows.{own_row}
use Rattle.cla_layout.proofs.Matrices.{column_there}

stride_distinct : (a i i' j j' : ℕ) → j < a → j' < a → i * a + j ≡ i' * a + j' → (i ≡ i') × (j ≡ j')
stride_distinct a i i' j j' below also same = (
  sym (div-mul-add i a j below) ∙ ap (λ (p : ℕ). p / a) same ∙ div-mul-add i' a j' also,
  sym (mod-mul-add i a j below) ∙ ap (λ (p : ℕ). p % a) same ∙ mod-mul-add i' a j' also,
)

-- different entries have different places
pub place_distinct : (shape : Shape) (i i' j j' : ℕ) → i < shape.rows → i' < shape.rows → j < shape.cols →
    j' < shape.cols
    → place_in shape i j ≡ place_in shape i' j' → (i ≡ i') × (j ≡ j')
place_distinct shape i i' j j' row row' col col' same = elim (cases_Bool shape.flipped) [
  | inl flipped ↦ (let both = stride_distinct shape.rows j j' i i' row row' (rw flipped at same) in (both.1, both.0))
  | inr plain ↦ stride_distinct shape.cols i i' j j' col col' (rw plain at same)
]

-- and each is among the cells
pub place_small : (shape : Shape) (i j : ℕ) → i < shape.rows → j < shape.cols →
    place_in shape i j < shape.rows * shape.cols
place_small shape i j row col = elim (cases_Bool shape.flipped) [
  | inl flipped ↦ rw flipped
      (omega (arith, cell_within shape.cols shape.rows j i col row, mul_comm shape.rows shape.cols))
  | inr plain ↦ rw plain (cell_within shape.rows shape.cols i j row col)
]

-- one more number is below n + 1 than below n, which is n itself
not_here : (r n : ℕ) → (r ≡ n → ⊥) → ltb r n ≡ ltb r (n + 1)
not_here r n other = elim (cases_lt r n) [
  | inl before ↦ lt-ltb r n before ∙ sym (lt-ltb r (n + 1) (omega (arith, before)))
  | inr after ↦ le-ltb r n after ∙ sym (le-ltb r (n + 1) (grind (arith, after, other)))
]

-- the columns before place n of row i are written
abbrev pub RowWrittenTo : Shape → List ℕ → (ℕ → ℤ) → ℕ → ℕ → List ℤ → List ℤ → Type 0
RowWrittenTo shape columns tuple i n first now = (r j : ℕ) → r < shape.rows → j < shape.cols →
    at now (place_in shape r j) ≡ cond (eqb r i && ltb (index_of columns j) n) (tuple (index_of columns j))
    (at first (place_in shape r j))

pub column_step : (shape : Shape) (columns : List ℕ) (tuple : ℕ → ℤ) (i c p : ℕ) (v : ℤ) (first now : List ℤ) →
    Rise columns
    → c < length columns
    → i < shape.rows → column_at columns c < shape.cols → p ≡ place_in shape i (column_at columns c) → v ≡ tuple c →
    length now
    ≡ shape.rows * shape.cols
    → RowWrittenTo shape columns tuple i c first now → RowWrittenTo shape columns tuple i (c + 1) first (set now p v)
column_step shape columns tuple i c p v first now rising there row col place is count written r j row' col' =
    let distinct = place_distinct shape r i j (column_at columns c) row' row col' col in
    elim (cases_eq r i) [
      | inr other ↦
          let elsewhere : place_in shape r j ≡ p → ⊥ = λ same. other ((distinct (same ∙ place)).0) in
          get_or-set_other now p (place_in shape r j) v (pos 0) elsewhere ∙ written r j row' col'
          ∙ rw (ne_eqb r i other) refl
      | inl same_row ↦ elim (cases_eq j (column_at columns c)) [
        | inl same ↦
            let here : place_in shape r j ≡ p = rw (same_row, same, place) refl in
            let index : index_of columns j ≡ c = place_of_column columns c j rising there (sym same) in
            let within : p < length now = rw (count, place) (place_small shape i (column_at columns c) row col) in
            rw (here, eq-eqb r i same_row, index, lt-ltb c (c + 1) (omega arith))
            (get_or-set_same now p v (pos 0) within ∙ is)
        | inr other ↦
            let elsewhere : place_in shape r j ≡ p → ⊥ = λ same. other ((distinct (same ∙ place)).1) in
            let later : index_of columns j ≡ c → ⊥ = λ place. other
            (sym (column_there columns j (omega (arith, place, there))) ∙ ap (column_at columns) place) in
            get_or-set_other now p (place_in shape r j) v (pos 0) elsewhere ∙ written r j row' col'
            ∙ ap (λ (b : Bool). cond (eqb r i && b) (tuple (index_of columns j)) (at first (place_in shape r j)))
            (not_here (index_of columns j) c later)
      ]
    ]

not_both : (b : Bool) → b && false ≡ false
not_both true = refl
not_both false = refl

-- one more row is written, with its tuple
row_step : (test more : ℕ → Bool) (shape : Shape) (part : LayoutPart) (k i : ℕ) (first now next : List ℤ) →
    k ≡ code_of part.codes i
    → more i ≡ true
    → ((r : ℕ) → r < shape.rows → (r ≡ i → ⊥) → more r ≡ test r) → IsRowWritten shape part k i now next
    → AreRowsWritten test shape part first now → AreRowsWritten more shape part first next
row_step test more shape part k i first now next code here others written so_far r j row col = elim (cases_eq r i) [
  | inr other ↦ rw (others r row other) (written r j row col ∙ rw (ne_eqb r i other) (so_far r j row col))
  | inl same ↦ elim (cases_Bool (has_column part j)) [
    | inl has ↦ written r j row col ∙ rw (eq-eqb r i same, has, same, here, code) refl
    | inr none ↦
        let kept : at now (place_in shape r j) ≡ at first (place_in shape r j) =
        rw (none, not_both (test r)) at (so_far r j row col) in
        rw (none, not_both (more r)) (written r j row col ∙ rw (eq-eqb r i same, none) kept)
  ]
]

-- where each row has a tuple of its own, the row of tuple k is the only one with code k
pub tuple_step : (bits : ℕ) (shape : Shape) (part : LayoutPart) (k i : ℕ) (first now next : List ℤ) →
    IsPart bits shape.rows part
    → length part.tuples ≡ shape.rows → k < length part.tuples
    → i ≡ first_row_of part.codes k → IsRowWritten shape part k i now next
    → AreRowsWritten (λ r. ltb (code_of part.codes r) k) shape part first now
    → AreRowsWritten (λ r. ltb (code_of part.codes r) (k + 1)) shape part first next
tuple_step bits shape part k i first now next is own there first_row written so_far =
    let codes = part.codes in
    let code : code_of codes i ≡ k = ap (code_of codes) first_row ∙ code_of_first_row codes k (is.group.used k there) in
    row_step (λ r. ltb (code_of codes r) k) (λ r. ltb (code_of codes r) (k + 1)) shape part k i first now next
    (sym code)
    (lt-ltb (code_of codes i) (k + 1) (omega (arith, code)))
    (λ r row other. sym (not_here (code_of codes r) k (λ same. other
    (sym (own_row codes (length part.tuples) r is.group.used (own ∙ sym is.a_code_each) (rw is.a_code_each row)
    is.group.in_tuples)
    ∙ ap (first_row_of codes) same ∙ sym first_row)))) written so_far
