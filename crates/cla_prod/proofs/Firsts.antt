-- The first of exact entries that isn't in range, row by row.
use Rattle.std.proofs.Common.{◌≡◌, ℕ, ℤ, pos, ◌+◌, ◌*◌, ◌/◌, ◌%◌, ◌<◌, ◌≤◌, Option, Some, None, false, true, List}
use Rattle.std.proofs.Common.{length, map, refl, ap, sym, ◌∙◌, arith, inl, inr}
use Rattle.std.proofs.lemmas.Bool.{cases_lt}
use Rattle.std.proofs.lemmas.List.{ext_get_or}
use Rattle.std.proofs.lemmas.Nat.{div-mul-add, mod-mul-add}
use Rattle.cla_spec.specs.Numbers.{InRange}
use Rattle.cla_spec.specs.Matrix.{row_by_row}
use Rattle.cla_spec.proofs.Entries.{cell_within, row_by_row-at, row_by_row-count}
use Rattle.cla_num.specs.declared.fault.OpFault.{OpFault}
use Rattle.cla_num.specs.declared.fault.What.TheVariants.{Range}
use Rattle.cla_num.specs.Fault.{fault_of, exactly}
use Rattle.cla_num.proofs.Faults.{fault_of-none, fault_of-first}
use Rattle.cla_layout.proofs.Tuples.{item_holds}
use Rattle.cla_prod.specs.Lines.{AreNumbers}

-- the first p entries, row by row, are in range
abbrev pub AreInRange : ℕ → ℕ → (ℕ → ℕ → ℤ) → ℕ → Type 0
AreInRange bits cols exact p = (q : ℕ) → q < p → InRange bits (exact (q / cols) (q % cols))

-- none is out of range
pub all_in_range : (bits rows cols : ℕ) (exact : ℕ → ℕ → ℤ) → 1 ≤ cols → AreInRange bits cols exact (rows * cols)
    → fault_of bits rows cols (exactly exact) ≡ None
all_in_range bits rows cols exact some all =
    fault_of-none bits rows cols exact some (λ i j row col out.
    (let here = all (i * cols + j) (cell_within rows cols i j row col) in out
    (rw (div-mul-add i cols j col, mod-mul-add i cols j col) at here)))

-- the fault of an entry that isn't in range
abbrev pub found_at : ℕ → ℕ → ℤ → Option OpFault
found_at i j v = Some (record { op = 0; row = i + 1; col = j + 1; what = Range v })

-- the entry in row i and column j is the first one
pub first_out : (bits rows cols : ℕ) (exact : ℕ → ℕ → ℤ) (i j : ℕ) → 1 ≤ cols → i < rows → j < cols
    → AreInRange bits cols exact (i * cols + j) → (InRange bits (exact i j) → ⊥)
    → fault_of bits rows cols (exactly exact) ≡ found_at i j (exact i j)
first_out bits rows cols exact i j some row col before out =
    let p = i * cols + j in
    fault_of-first bits rows cols exact p some (record {
      reached = (i, j, row, col, refl, out);
      least = λ r c there here fails. elim (cases_lt (r * cols + c) p) [
        | inl early ↦
            (let ranged = before (r * cols + c) early in absurd (fails (rw
            (div-mul-add r cols c here, mod-mul-add r cols c here) at ranged)))
        | inr late ↦ late
      ];
    })
    ∙ ap (λ (r : ℕ). found_at r (p % cols) (exact r (p % cols))) (div-mul-add i cols j col)
    ∙ ap (λ (c : ℕ). found_at i c (exact i c)) (mod-mul-add i cols j col)

-- so these are in range
pub numbers_in_range : {N : Type 0} (bits : ℕ) (value : N → ℤ) → ((x : N) → InRange bits (value x)) → (cols : ℕ)
    (exact : ℕ → ℕ → ℤ) (p : ℕ)
    (numbers : List N) → p ≤ length numbers → AreNumbers value cols exact p numbers → AreInRange bits cols exact p
numbers_in_range bits value in_range cols exact p numbers within are q before =
    rw (sym (are q before)) (item_holds value (InRange bits) in_range numbers q (omega (arith, before, within)))

-- and where all are, the numbers are the entries row by row
pub all_numbers : {N : Type 0} (value : N → ℤ) (rows cols : ℕ) (exact : ℕ → ℕ → ℤ) (numbers : List N) → length
    (map value numbers) ≡ rows * cols
    → AreNumbers value cols exact (rows * cols) numbers → map value numbers ≡ row_by_row rows cols exact
all_numbers value rows cols exact numbers count are =
    ext_get_or (pos 0) (map value numbers) (row_by_row rows cols exact) (count ∙ sym (row_by_row-count rows cols exact))
    (λ p lt. (let there : p < rows * cols = rw count at lt in are p there ∙ sym
    (row_by_row-at rows cols exact p (pos 0) there)))

pub not_true : false ≡ true → ⊥
not_true same = cc
