-- What reading a file by an input leaves of its files.
use Rattle.std.specs.Prelude.{◌≡◌, ℕ, ◌≤◌, List, Option, Some, None, IsSome}
use Rattle.cla_io.specs.State.{State, Reading}

-- a file is being read, and none of it was taken
abbrev pub IsAtStart : Option Reading → Type 0
IsAtStart None = ⊥
IsAtStart (Some r) = r.place ≡ 0

-- the name of the file that is being read
abbrev pub name_read : Option Reading → Option (List ℕ)
name_read None = None
name_read (Some r) = Some r.name

-- nothing but the place in the file and faults of reading changed
pub record ReadsOn (old new : State) : Type 0 where
  pub told : new.told ≡ old.told
  pub writing : new.writing ≡ old.writing
  pub steady : new.steady ≡ old.steady
  pub read_faults : old.read_faults ≤ new.read_faults
  pub write_faults : new.write_faults ≡ old.write_faults
  pub misses : new.misses ≡ old.misses
  pub open_still : IsSome new.reading
  pub same_file : name_read new.reading ≡ name_read old.reading
