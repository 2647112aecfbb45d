-- Chains of steps over the entries of a matrix.
use Rattle.std.specs.Prelude.{ℕ, ℤ, pos, ◌+◌, List, [], ◌∷◌, Option, Some, None}
use Rattle.cla_num.specs.Fault.{fault_of}
use Rattle.cla_num.specs.declared.fault.OpFault.{OpFault}
use Rattle.cla_meaning.specs.Entries.{Entry}

-- what a step makes of an entry: None where it divides by zero
abbrev pub StepValue : Type 0
StepValue = ℤ → Option ℤ

-- the integer of a cell that has one
abbrev pub integer_of : Option ℤ → ℤ
integer_of None = pos 0
integer_of (Some z) = z

-- a fault of this step, or else a later one
abbrev pub at_step : ℕ → Option OpFault → Option OpFault → Option OpFault
at_step op None later = later
at_step op (Some fault) later = Some (record fault { op = op })

-- the first fault of a chain over a matrix with these entries, of which each step is taken over all cells before the
-- next one; the steps count from `op`
abbrev pub chain_fault_from : ℕ → ℕ → ℕ → ℕ → List StepValue → Entry → Option OpFault
chain_fault_from bits rows cols op [] entry = None
chain_fault_from bits rows cols op (f ∷ fs) entry =
    at_step op (fault_of bits rows cols (λ i j. f (entry i j)))
    (chain_fault_from bits rows cols (op + 1) fs (λ i j. integer_of (f (entry i j))))

abbrev pub chain_fault : ℕ → ℕ → ℕ → List StepValue → Entry → Option OpFault
chain_fault bits rows cols steps entry = chain_fault_from bits rows cols 0 steps entry

-- an entry after all steps
abbrev pub chain_value : List StepValue → ℤ → ℤ
chain_value [] z = z
chain_value (f ∷ fs) z = chain_value fs (integer_of (f z))
