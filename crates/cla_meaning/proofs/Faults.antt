-- The first faulty cell of a result whose cells may have divisors.
use Rattle.std.proofs.Common.{◌≡◌, ◌⊎◌, ℕ, ℤ, ◌+◌, ◌*◌, ◌/◌, ◌%◌, ◌<◌, ◌≤◌, Option, Some, None, refl, ap, subst, ◌∙◌}
use Rattle.std.proofs.Common.{arith, inl, inr}
use Rattle.std.proofs.Math.Nat.{div-lt_iff_lt-mul}
use Rattle.std.proofs.lemmas.Nat.{div-mul-add, mod-mul-add, div-add-mod'}
use Rattle.cla_spec.specs.Matrix.{row_by_row}
use Rattle.cla_spec.proofs.Entries.{row_by_row-at, row_by_row-count, cell_within}
use Rattle.cla_num.specs.declared.fault.What.{What}
use Rattle.cla_num.specs.Fault.{cell_fault, fault_at, fault_of}
use Rattle.cla_num.proofs.Faults.{no_fault_from, fault_from}
use Rattle.cla_meaning.specs.Laws.{IsFirstFaulty}

pub either_what : (w : Option What) → (w ≡ None) ⊎ ((what : What) × (w ≡ Some what))
either_what None = inl refl
either_what (Some what) = inr (what, refl)

-- a place is a row and a column
row_of : (rows cols p : ℕ) → 1 ≤ cols → p < rows * cols → p / cols < rows
row_of rows cols p some there = (div-lt_iff_lt-mul some).1 there

-- no cell is faulty
pub no_fault : (bits rows cols : ℕ) (exact : ℕ → ℕ → Option ℤ) → 1 ≤ cols
    → ((i j : ℕ) → i < rows → j < cols → cell_fault bits (exact i j) ≡ None) → fault_of bits rows cols exact ≡ None
no_fault bits rows cols exact some good =
    no_fault_from bits cols 0 (row_by_row rows cols exact) (λ p lt.
    (let there : p < rows * cols = rw (row_by_row-count rows cols exact) at lt in
    ap (cell_fault bits) (row_by_row-at rows cols exact p None there)
    ∙ good (p / cols) (p % cols) (row_of rows cols p some there) (omega (arith, some))))

-- the cell before which none is faulty gives the fault
pub fault_is : (bits rows cols : ℕ) (exact : ℕ → ℕ → Option ℤ) (i j : ℕ) (what : What) → 1 ≤ cols
    → IsFirstFaulty bits rows cols exact i j what → fault_of bits rows cols exact
    ≡ Some (fault_at cols (i * cols + j) what)
fault_is bits rows cols exact i j what some first =
    let p = i * cols + j in
    let there : p < rows * cols = cell_within rows cols i j first.row first.col in
    let bad_at : cell_fault bits (exact (p / cols) (p % cols)) ≡ Some what =
    rw (div-mul-add i cols j first.col, mod-mul-add i cols j first.col) first.faulty in
    let from_start : 0 + p ≡ p = omega arith in
    subst (λ (q : ℕ). fault_of bits rows cols exact ≡ Some (fault_at cols q what)) from_start
    (fault_from bits cols 0 (row_by_row rows cols exact) p what (rw (row_by_row-count rows cols exact) there)
    (λ q lt. (let q_there : q < rows * cols = omega (arith, lt, there) in
    ap (cell_fault bits) (row_by_row-at rows cols exact q None q_there)
    ∙ elim (either_what (cell_fault bits (exact (q / cols) (q % cols)))) [
      | inl good ↦ good
      | inr fails ↦
          (let after = first.least (q / cols) (q % cols) fails.0 (row_of rows cols q some q_there) (omega (arith, some))
          fails.1 in
          absurd (omega (arith, after, lt, div-add-mod' q cols)))
    ]))
    (ap (cell_fault bits) (row_by_row-at rows cols exact p None there) ∙ bad_at))
