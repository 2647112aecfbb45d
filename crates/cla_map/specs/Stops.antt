-- Which values of dictionaries stop in a chain of steps, and where the first of them is.
use Rattle.std.specs.Prelude.{◌≡◌, ℕ, ℤ, ◌+◌, ◌*◌, ◌/◌, ◌%◌, ◌^◌, List, [], ◌∷◌, map, Option, Some, None, Result, Ok}
use Rattle.std.specs.Prelude.{Err, ◌&&◌, ◌||◌, ◌==◌, nat_lt, if◌then◌else◌}
use Rattle.std.specs.List.{range_with_len}
use Rattle.cla_num.specs.Fault.{cell_fault}
use Rattle.cla_num.specs.declared.fault.What.{What}
use Rattle.cla_num.specs.declared.fault.OpFault.{OpFault}
use Rattle.cla_layout.specs.Groups.{value_of}
use Rattle.cla_meaning.specs.Chains.{StepValue, integer_of}
use Rattle.cla_map.specs.declared.misfit.Stop.{Stop}
use Rattle.cla_map.specs.declared.misfit.Misfit.{Misfit}
use Rattle.cla_map.specs.declared.shape.Shape.{Shape}

-- what one value does by itself: the step at which it stops, if any, and its value before that
abbrev pub or_stop : Option Stop → ℕ → Option What → Option Stop
or_stop later op None = later
or_stop later op (Some what) = Some (record { op = op; what = what })

abbrev pub stop_from : ℕ → ℕ → List StepValue → ℤ → Option Stop
stop_from bits op [] z = None
stop_from bits op (f ∷ fs) z = or_stop (stop_from bits (op + 1) fs (integer_of (f z))) op (cell_fault bits (f z))

abbrev pub or_last : ℤ → ℤ → Option What → ℤ
or_last later z None = later
or_last later z (Some what) = z

abbrev pub last_value : ℕ → List StepValue → ℤ → ℤ
last_value bits [] z = z
last_value bits (f ∷ fs) z = or_last (last_value bits fs (integer_of (f z))) z (cell_fault bits (f z))

-- the number of an exact cell, or what is wrong with it
abbrev pub GivesNumber : {N : Type 0} → ℕ → (N → ℤ) → Option ℤ → Result N What → Type 0
GivesNumber bits value cell (Ok n) = (cell_fault bits cell ≡ None) × (value n ≡ integer_of cell)
GivesNumber bits value cell (Err what) = cell_fault bits cell ≡ Some what

abbrev pub misfit_of : Option Stop → ℕ → Option Misfit
misfit_of None place = None
misfit_of (Some stop) place = Some (record { op = stop.op; place = place; what = stop.what })

abbrev pub lesser_of : Option Misfit → Option Misfit → Option Misfit
lesser_of None other = other
lesser_of (Some a) None = Some a
lesser_of (Some a) (Some b) = if nat_lt b.op a.op || (b.op == a.op && nat_lt b.place a.place) then Some b else Some a

abbrev pub fault_of_misfit : ℕ → Misfit → OpFault
fault_of_misfit cols m = record { op = m.op; row = m.place / cols + 1; col = m.place % cols + 1; what = m.what }

-- the place, row by row, of the entry in row i and column j of the base
abbrev pub place_in : Shape → ℕ → ℕ → ℕ
place_in shape i j = if shape.flipped then j * shape.rows + i else i * shape.cols + j

-- the counts with which one value, one tuple and one part may begin
abbrev pub value_room : ℕ
value_room = 2 ^ 127 + 2 ^ 126 + 2 ^ 62

abbrev pub tuple_room : ℕ
tuple_room = 2 ^ 127 + 2 ^ 126 + 2 ^ 60

abbrev pub part_room : ℕ
part_room = 2 ^ 127 + 2 ^ 126 + 2 ^ 59

-- the first m values of the tuples, each mapped as its place asks
abbrev pub mapped_values : (ℕ → ℤ → ℤ) → ℕ → List (List ℤ) → ℕ → List ℤ
mapped_values h width tuples m =
    map (λ p. h (p % width) (value_of tuples (p / width) (p % width))) (range_with_len 0 m)
