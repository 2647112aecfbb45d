-- The first faulty cell of a result, by its place.
use Rattle.std.proofs.Common.{◌≡◌, ℕ, ℤ, zero, suc, ◌+◌, ◌*◌, ◌/◌, ◌%◌, ◌^◌, ◌<◌, ◌≤◌, List, [], ◌∷◌, length, get_or}
use Rattle.std.proofs.Common.{Option, Some, None, refl, ap, subst, sym, ◌∙◌, arith, inl, inr}
use Rattle.std.proofs.Math.Nat.{div-lt_iff_lt-mul, mul-le-mul}
use Rattle.std.proofs.lemmas.Bool.{lt-ltb, le-ltb, cases_lt}
use Rattle.std.proofs.lemmas.Nat.{div-mul-add, mod-mul-add, div-add-mod'}
use Rattle.std.specs.Int.RustNames.{unsigned_abs}
use Rattle.cla_spec.specs.Numbers.{InRange}
use Rattle.cla_spec.specs.Matrix.{row_by_row}
use Rattle.cla_spec.proofs.Entries.{row_by_row-at, row_by_row-count, row_by_row-same}
use Rattle.cla_num.specs.declared.fault.What.{What}
use Rattle.cla_num.specs.declared.fault.What.TheVariants.{Range}
use Rattle.cla_num.specs.Fault.{cell_fault, fault_at, or_else, first_fault_from, first_fault, fault_of, scalar_fault}
use Rattle.cla_num.specs.Fault.{exactly}
use Rattle.cla_num.specs.Places.{IsFirstPlace, NoneFails}

pub scalar_in_range : (bits : ℕ) (v : ℤ) → InRange bits v → scalar_fault bits (Some v) ≡ None
scalar_in_range bits v h = rw (lt-ltb (unsigned_abs v) (2 ^ bits) h) refl

pub scalar_out_of_range : (bits : ℕ) (v : ℤ) → (InRange bits v → ⊥) → scalar_fault bits (Some v)
    ≡ Some (record { op = 0; row = 1; col = 1; what = Range v })
scalar_out_of_range bits v h = elim (cases_lt (unsigned_abs v) (2 ^ bits)) [
  | inl lt ↦ absurd (h lt)
  | inr ge ↦ rw (le-ltb (unsigned_abs v) (2 ^ bits) ge) refl
]

-- an exact value that isn't in range
abbrev pub OutOfRange : ℕ → (ℕ → ℕ → ℤ) → ℕ → ℕ → Type 0
OutOfRange bits entry i j = InRange bits (entry i j) → ⊥

good_cell : (bits : ℕ) (v : ℤ) → ((InRange bits v → ⊥) → ⊥) → cell_fault bits (Some v) ≡ None
good_cell bits v good = elim (cases_lt (unsigned_abs v) (2 ^ bits)) [
  | inl lt ↦ rw (lt-ltb (unsigned_abs v) (2 ^ bits) lt) refl
  | inr ge ↦ absurd (good (λ lt. omega (arith, lt, ge)))
]

bad_cell : (bits : ℕ) (v : ℤ) → (InRange bits v → ⊥) → cell_fault bits (Some v) ≡ Some (Range v)
bad_cell bits v bad = elim (cases_lt (unsigned_abs v) (2 ^ bits)) [
  | inl lt ↦ absurd (bad lt)
  | inr ge ↦ rw (le-ltb (unsigned_abs v) (2 ^ bits) ge) refl
]

-- cells of which none is faulty have no first fault
pub no_fault_from : (bits cols place : ℕ) (cells : List (Option ℤ)) →
    ((i : ℕ) → i < length cells → cell_fault bits (get_or cells i None) ≡ None) → first_fault_from bits cols place cells
    ≡ None
no_fault_from bits cols place [] good = refl
no_fault_from bits cols place (cell ∷ cells) good =
    ap (λ (w : Option What). or_else (first_fault_from bits cols (place + 1) cells) w cols place)
    (good zero (omega arith))
    ∙ no_fault_from bits cols (place + 1) cells (λ i lt. good (suc i) (omega (arith, lt)))

-- the first of the faulty cells gives the fault
pub fault_from : (bits cols place : ℕ) (cells : List (Option ℤ)) (i : ℕ) (what : What) → i < length cells →
    ((k : ℕ) → k < i → cell_fault bits (get_or cells k None) ≡ None) → cell_fault bits (get_or cells i None) ≡ Some what
    → first_fault_from bits cols place cells ≡ Some (fault_at cols (place + i) what)
fault_from bits cols place [] i what there good bad = absurd (omega (arith, there))
fault_from bits cols place (cell ∷ cells) zero what there good bad =
    let same : place + zero ≡ place = omega arith in
    rw same (ap (λ (w : Option What). or_else (first_fault_from bits cols (place + 1) cells) w cols place) bad)
fault_from bits cols place (cell ∷ cells) (suc i) what there good bad =
    let same : place + suc i ≡ place + 1 + i = omega arith in
    rw same (ap (λ (w : Option What). or_else (first_fault_from bits cols (place + 1) cells) w cols place)
    (good zero (omega arith))
    ∙ fault_from bits cols (place + 1) cells i what (omega (arith, there)) (λ k lt. good (suc k) (omega (arith, lt)))
    bad)

-- the same exact entries have the same fault
pub fault_of-same : (bits rows cols : ℕ) (f g : ℕ → ℕ → ℤ) → 1 ≤ cols →
    ((i j : ℕ) → i < rows → j < cols → f i j ≡ g i j) → fault_of bits rows cols (exactly f)
    ≡ fault_of bits rows cols (exactly g)
fault_of-same bits rows cols f g some same =
    ap (first_fault bits cols) (row_by_row-same rows cols (exactly f) (exactly g) None some
    (λ i j row col. ap (λ (v : ℤ). Some v) (same i j row col)))

-- where no exact entry is out of range there is no fault
pub fault_of-none : (bits rows cols : ℕ) (entry : ℕ → ℕ → ℤ) → 1 ≤ cols → NoneFails rows cols (OutOfRange bits entry) →
    fault_of bits rows cols (exactly entry) ≡ None
fault_of-none bits rows cols entry some good =
    no_fault_from bits cols 0 (row_by_row rows cols (exactly entry)) (λ p lt.
    (let there : p < rows * cols = rw (row_by_row-count rows cols (exactly entry)) at lt in
    ap (cell_fault bits) (row_by_row-at rows cols (exactly entry) p None there)
    ∙ good_cell bits (entry (p / cols) (p % cols)) (good (p / cols) (p % cols) ((div-lt_iff_lt-mul some).1 there)
    (omega arith))))

-- the first place row by row at which an exact entry is out of range gives the fault
pub fault_of-first : (bits rows cols : ℕ) (entry : ℕ → ℕ → ℤ) (p : ℕ) → 1 ≤ cols →
    IsFirstPlace rows cols (λ i j. i * cols + j) (OutOfRange bits entry) p
    → fault_of bits rows cols (exactly entry) ≡ Some (fault_at cols p (Range (entry (p / cols) (p % cols))))
fault_of-first bits rows cols entry p some first =
    let i = first.reached.0 in
    let j = first.reached.1 in
    let row : i < rows = first.reached.2 in
    let col : j < cols = first.reached.3 in
    let is : i * cols + j ≡ p = first.reached.4 in
    let bad : OutOfRange bits entry i j = first.reached.5 in
    let up_to : suc i * cols ≤ rows * cols =
    mul-le-mul {n₁ = suc i} {m₁ = cols} {n₂ = rows} {m₂ = cols} row (omega arith) in
    let there : p < rows * cols = omega (arith, is, col, up_to) in
    let i_is : p / cols ≡ i = ap (λ (q : ℕ). q / cols) (sym is) ∙ div-mul-add i cols j col in
    let j_is : p % cols ≡ j = ap (λ (q : ℕ). q % cols) (sym is) ∙ mod-mul-add i cols j col in
    let from_start : 0 + p ≡ p = omega arith in
    subst (λ (q : ℕ). fault_of bits rows cols (exactly entry)
    ≡ Some (fault_at cols q (Range (entry (p / cols) (p % cols))))) from_start
    (fault_from bits cols 0 (row_by_row rows cols (exactly entry)) p (Range (entry (p / cols) (p % cols)))
    (rw (row_by_row-count rows cols (exactly entry)) there)
    (λ q lt. (let q_there : q < rows * cols = omega (arith, lt, there) in
    ap (cell_fault bits) (row_by_row-at rows cols (exactly entry) q None q_there)
    ∙ good_cell bits (entry (q / cols) (q % cols))
    (λ fails. (let least = first.least (q / cols) (q % cols) ((div-lt_iff_lt-mul some).1 q_there) (omega arith)
    fails in
    omega (arith, least, lt, div-add-mod' q cols)))))
    (ap (cell_fault bits) (row_by_row-at rows cols (exactly entry) p None there)
    ∙ bad_cell bits (entry (p / cols) (p % cols)) (rw (i_is, j_is) bad)))
