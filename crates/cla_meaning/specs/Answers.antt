-- What operators answer.
use Rattle.std.specs.Prelude.{◌≡◌, ℕ, Some, None, Result, Ok, Err}
use Rattle.cla_spec.specs.Matrix.{Matrix, row_by_row}
use Rattle.cla_num.specs.Fault.{fault_of, exactly}
use Rattle.cla_num.specs.declared.fault.Refused.{Refused}
use Rattle.cla_num.specs.declared.fault.Refused.TheVariants.{Op, Memory}
use Rattle.cla_meaning.specs.Entries.{Entry}

-- the matrix of this shape with these exact entries, where none is out of range, or else the first fault
abbrev pub AnswersMatrix : ℕ → ℕ → ℕ → Entry → Result Matrix Refused → Type 0
AnswersMatrix bits rows cols exact (Ok m) =
    (m ≡ record { rows = rows; cols = cols; cells = row_by_row rows cols exact })
    × (fault_of bits rows cols (exactly exact) ≡ None)
AnswersMatrix bits rows cols exact (Err (Op fault)) = fault_of bits rows cols (exactly exact) ≡ Some fault
AnswersMatrix bits rows cols exact (Err Memory) = Unit {0}
