-- What the calls that write do to sinks.
use Rattle.std.specs.Prelude.{◌≡◌, ℕ, ◌≤◌, List, ◌++◌, take, length, Option, Some, None, Result, Ok, Err}
use Rattle.cla_io.specs.Counts.{Rose}
use Rattle.cla_io.specs.declared.stop.Stop.{Stop}
use Rattle.cla_io.specs.declared.stop.OutFault.{OutFault}
use Rattle.cla_io.specs.declared.stop.OutFault.TheVariants.{Write, Memory}

-- a piece was appended, where that is told
abbrev pub Grows : Option (List ℕ) → Option (List ℕ) → List ℕ → Type 0
Grows None new piece = new ≡ None
Grows (Some old) new piece = new ≡ Some (old ++ piece)

-- what write answers
abbrev pub SinkWrites : List ℕ → Option (List ℕ) → Option (List ℕ) → Result ℕ Stop → Type 0
SinkWrites piece old new (Ok n) = (1 ≤ n) × (n ≤ length piece) × Grows old new (take n piece)
SinkWrites piece old new (Err e) = new ≡ old

-- what a call answers that puts a whole piece: it is appended, or a prefix of it after an error
abbrev pub PutsAll : {U E : Type 0} → List ℕ → Option (List ℕ) → Option (List ℕ) → Result U E → Type 0
PutsAll piece old new (Ok u) = Grows old new piece
PutsAll piece old new (Err e) = (n : ℕ) × Grows old new (take n piece)

-- Write comes only where a count of faults rose, and the count stays with every other answer: no fault is passed over
abbrev pub HasWriteCause : {U : Type 0} → ℕ → ℕ → Result U OutFault → Type 0
HasWriteCause before now (Ok u) = now ≡ before
HasWriteCause before now (Err Write) = Rose before now
HasWriteCause before now (Err Memory) = now ≡ before
