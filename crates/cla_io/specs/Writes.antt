-- What the calls that write do to files.
use Rattle.std.specs.Prelude.{◌≡◌, ℕ, ◌≤◌, List, [], ◌++◌, take, length, Option, Some, None, Result, Ok, Err}
use Rattle.std.specs.FinMap as fin
use Rattle.cla_spec.specs.Files.{Told, bytes_at}
use Rattle.cla_io.specs.State.{State}
use Rattle.cla_io.specs.declared.stop.Stop.{Stop}

-- nothing but what they hold, the files that are being read and written, and faults of writing changed
pub record OnlyWrites (old new : State) : Type 0 where
  pub steady : new.steady ≡ old.steady
  pub read_faults : new.read_faults ≡ old.read_faults
  pub write_faults : old.write_faults ≤ new.write_faults
  pub misses : new.misses ≡ old.misses

-- the same files, one of which holds these bytes, where they tell
abbrev pub with_bytes : Option Told → List ℕ → List ℕ → Option Told
with_bytes None name bytes = None
with_bytes (Some told) name bytes = Some (fin.insert told name bytes)

-- the bytes of the file that is being written, where they are told
abbrev pub held : Option Told → Option (List ℕ) → Option (List ℕ)
held None writing = None
held (Some told) None = None
held (Some told) (Some name) = Some (bytes_at told name)

-- the same files, where a piece was appended to the file that is being written
abbrev pub appended : Option Told → Option (List ℕ) → List ℕ → Option Told
appended told None piece = told
appended None (Some name) piece = None
appended (Some told) (Some name) piece = Some (fin.insert told name (bytes_at told name ++ piece))

-- what begin_write answers
abbrev pub BeginsWrite : {U : Type 0} → List ℕ → State → State → Result U Stop → Type 0
BeginsWrite name old new (Ok u) = (new.told ≡ with_bytes old.told name []) × (new.writing ≡ Some name)
    × (new.reading ≡ None)
BeginsWrite name old new (Err e) = (new.told ≡ old.told) × (new.writing ≡ None) × (new.reading ≡ None)

-- what write answers
abbrev pub Writes : List ℕ → State → State → Result ℕ Stop → Type 0
Writes piece old new (Ok n) = (1 ≤ n) × (n ≤ length piece) × (new.told ≡ appended old.told old.writing (take n piece))
Writes piece old new (Err e) = new.told ≡ old.told
