-- What a reader of tables answers.
use Rattle.std.specs.Prelude.{◌≡◌, ℕ, Result, Ok, Err}
use Rattle.cla_mtx.specs.Reading as mtx
use Rattle.cla_packed.specs.declared.fault.PackFault.{PackFault}
use Rattle.cla_packed.specs.declared.fault.PackFault.TheVariants.{Field, Trailing, TooLarge, TooLong, Memory}
use Rattle.cla_packed.specs.declared.fault.PackFault.TheVariants as faults
use Rattle.cla_pack_reader.specs.Places as pack
use Rattle.cla_tables.specs.declared.fault.FileFault.{FileFault}
use Rattle.cla_tables.specs.declared.fault.FileFault.TheVariants.{Mtx, Pack}
use Rattle.cla_tables.specs.TableFiles.{TableFile}

-- a fault that a packed file has; the others are met while it is read, and say nothing of it
abbrev pub IsOfPacked : PackFault → Type 0
IsOfPacked (Field group name at) = Unit {0}
IsOfPacked (Trailing at) = Unit {0}
IsOfPacked (TooLarge rows cols) = Unit {0}
IsOfPacked TooLong = Unit {0}
IsOfPacked faults.Read = ⊥
IsOfPacked Memory = ⊥

-- a fault that a file has, in either form
abbrev pub IsOfFile : FileFault → Type 0
IsOfFile (Mtx fault) = mtx.IsOfText fault
IsOfFile (Pack fault) = IsOfPacked fault

-- the table that the bytes of a file hold, or their first fault
abbrev pub ReadsAs : Result TableFile FileFault → Result TableFile FileFault → Type 0
ReadsAs held (Ok t) = held ≡ Ok t
ReadsAs held (Err fault) = IsOfFile fault → held ≡ Err fault

-- a fault of reading comes only where a count of them rose, and the count stays with every other answer
abbrev pub HasReadCause : {T : Type 0} → ℕ → ℕ → Result T FileFault → Type 0
HasReadCause before now (Ok x) = now ≡ before
HasReadCause before now (Err (Mtx fault)) = mtx.HasFaultCause before now fault
HasReadCause before now (Err (Pack fault)) = pack.HasFaultCause before now fault
