-- The first fault of an operator.
use Rattle.std.specs.Prelude.{◌≡◌, ℕ, ℤ, ◌+◌, ◌/◌, ◌%◌, List, [], ◌∷◌, Option, Some, None, Result, MatchResult}
use Rattle.std.specs.Prelude.{if◌then◌else◌}
use Rattle.cla_spec.specs.Numbers.{in_range}
use Rattle.cla_spec.specs.Matrix.{row_by_row}
use Rattle.cla_num.specs.declared.fault.What.{What}
use Rattle.cla_num.specs.declared.fault.What.TheVariants.{Range, Zero}
use Rattle.cla_num.specs.declared.fault.OpFault.{OpFault}

-- what is wrong with a cell of this exact value; None is a division by zero
abbrev pub cell_fault : ℕ → Option ℤ → Option What
cell_fault bits None = Some Zero
cell_fault bits (Some v) = if in_range bits v then None else Some (Range v)

-- the fault of the cell at this place, where places count row by row from 0
abbrev pub fault_at : ℕ → ℕ → What → OpFault
fault_at cols place what = record { op = 0; row = place / cols + 1; col = place % cols + 1; what = what }

abbrev pub or_else : Option OpFault → Option What → ℕ → ℕ → Option OpFault
or_else later None cols place = later
or_else later (Some what) cols place = Some (fault_at cols place what)

-- the first faulty cell among these exact cells, the first of which stands at this place
abbrev pub first_fault_from : ℕ → ℕ → ℕ → List (Option ℤ) → Option OpFault
first_fault_from bits cols place [] = None
first_fault_from bits cols place (cell ∷ cells) =
    or_else (first_fault_from bits cols (place + 1) cells) (cell_fault bits cell) cols place

-- the first faulty cell of a result with these exact cells, row by row
abbrev pub first_fault : ℕ → ℕ → List (Option ℤ) → Option OpFault
first_fault bits cols cells = first_fault_from bits cols 0 cells

-- the first faulty cell of a result of this shape with these exact entries, row by row
abbrev pub fault_of : ℕ → ℕ → ℕ → (ℕ → ℕ → Option ℤ) → Option OpFault
fault_of bits rows cols exact = first_fault bits cols (row_by_row rows cols exact)

-- the fault of a result that is one number
abbrev pub scalar_fault : ℕ → Option ℤ → Option OpFault
scalar_fault bits cell = first_fault bits 1 (cell ∷ [])

-- the exact cells of entries that have no divisor
abbrev pub exactly : (ℕ → ℕ → ℤ) → ℕ → ℕ → Option ℤ
exactly entry i j = Some (entry i j)

-- the number of an exact value, or its fault
abbrev pub AnswersNumber : {N : Type 0} → ℕ → (N → ℤ) → ℤ → Result N OpFault → Type 0
AnswersNumber bits value exact result =
    MatchResult result (λ n. (value n ≡ exact) × (scalar_fault bits (Some exact) ≡ None))
    (λ fault. scalar_fault bits (Some exact) ≡ Some fault)
