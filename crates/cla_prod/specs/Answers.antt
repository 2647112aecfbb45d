-- What the calls of products answer, and what they count.
use Rattle.std.specs.Prelude.{◌≡◌, ℕ, ◌+◌, ◌*◌, List, length, sum_by, Some, None, Result, Ok, Err}
use Rattle.cla_spec.specs.Matrix.{Matrix, row_by_row}
use Rattle.cla_num.specs.Counts.{Counts}
use Rattle.cla_num.specs.Fault.{fault_of, exactly}
use Rattle.cla_num.specs.declared.fault.Refused.{Refused}
use Rattle.cla_num.specs.declared.fault.Refused.TheVariants.{Op, Memory}
use Rattle.cla_layout.specs.Layouts.{LayoutPart}
use Rattle.cla_meaning.specs.Entries.{Entry}
use Rattle.cla_meaning.specs.Counts.{HasMults}

-- the matrix of these exact entries where all are in range, or else the fault of the first that isn't
abbrev pub AnswersEntries : ℕ → ℕ → ℕ → Entry → Result Matrix Refused → Type 0
AnswersEntries bits rows cols exact (Ok m) =
    (m ≡ record { rows = rows; cols = cols; cells = row_by_row rows cols exact })
    × (fault_of bits rows cols (exactly exact) ≡ None)
AnswersEntries bits rows cols exact (Err (Op fault)) = fault_of bits rows cols (exactly exact) ≡ Some fault
AnswersEntries bits rows cols exact (Err Memory) = Unit {0}

-- so many multiplications were made, or none where memory was wanting
abbrev pub CountsMults : {X : Type 0} → ℕ → Result X Refused → Counts → Counts → Type 0
CountsMults n (Ok x) before now = HasMults n before now
CountsMults n (Err (Op fault)) before now = HasMults n before now
CountsMults n (Err Memory) before now = now ≡ before

-- the numbers of columns, counted from 1, added up
abbrev pub column_numbers : List ℕ → ℕ
column_numbers columns = sum_by (λ j. j + 1) columns

-- what the product of a transpose and its matrix multiplies: the tuples of each part, each as often as its columns are
-- numbered
abbrev pub self_values_of : List LayoutPart → ℕ
self_values_of parts = sum_by (λ part. length part.tuples * column_numbers part.columns) parts
