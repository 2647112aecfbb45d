-- What contracts know of files: one state for all calls.
use Rattle.std.specs.Prelude.{◌≡◌, ℕ, List, [], Option, Some, None, Bool, true, drop, IsSome}
use Rattle.std.specs.Option.{ForSome}
use Rattle.std.specs.FinMap as fin
use Rattle.cla_spec.specs.Files.{Told, bytes_at}

-- the file that is being read, and how many of its bytes were taken
pub record Reading : Type 0 where
  pub name : List ℕ
  pub place : ℕ

pub record State : Type 0 where
  -- what the files hold, where they tell it
  pub told : Option Told
  pub reading : Option Reading
  -- the name of the file that is being written
  pub writing : Option (List ℕ)
  pub read_faults : ℕ
  pub write_faults : ℕ
  -- how often a file was asked for that isn't there
  pub misses : ℕ
  -- no call of theirs fails
  pub steady : Bool

pub record IsFaultless (s : State) : Type 0 where
  pub read_faults : s.read_faults ≡ 0
  pub write_faults : s.write_faults ≡ 0

-- steady files have no faults
abbrev pub SteadyIsFaultless : State → Type 0
SteadyIsFaultless s = s.steady ≡ true → IsFaultless s

-- the file that is being written is there, where that is told
abbrev pub IsThere : Option Told → Option (List ℕ) → Type 0
IsThere None writing = Unit {0}
IsThere (Some told) writing = ForSome writing (λ name. IsSome (fin.get told name))

abbrev pub WritingIsThere : State → Type 0
WritingIsThere s = IsThere s.told s.writing

-- the bytes of the file that is being read which weren't taken yet
abbrev pub left_in : Told → Option Reading → List ℕ
left_in told None = []
left_in told (Some r) = drop r.place (bytes_at told r.name)

abbrev pub left_where_told : Option Told → Option Reading → Option (List ℕ)
left_where_told None reading = None
left_where_told (Some told) reading = Some (left_in told reading)

-- the same, where the files tell
abbrev pub left : State → Option (List ℕ)
left s = left_where_told s.told s.reading
