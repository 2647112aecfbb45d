-- The files that a command needs.
use Rattle.std.specs.Prelude.{◌≡◌, ℕ, ◌<◌, ◌≤◌, List, length, Option, Some, None, Result, Ok, Err}
use Rattle.std.specs.FinMap as fin
use Rattle.std.specs.declared.vec.Vec.{Vec}
use Rattle.std.specs.declared.alloc.Global.{Global}
use Rattle.cla_spec.specs.Files.{Told}
use Rattle.cla_io.specs.State.{State, Reading}
use Rattle.cla_io.specs.Counts.{Rose}
use Rattle.cla_market.specs.declared.fault.MtxFault.TheVariants as mtx
use Rattle.cla_packed.specs.declared.fault.PackFault.TheVariants as pack
use Rattle.cla_tables.specs.declared.fault.FileFault.{FileFault}
use Rattle.cla_tables.specs.declared.fault.FileFault.TheVariants as file
use Rattle.cla_tables.specs.TableFiles.{TableFile, table_in}
use Rattle.cla_cli.specs.declared.unread.Unread.{Unread}
use Rattle.cla_cli.specs.declared.unread.Unread.TheVariants.{Missing, Fault, Memory, Refused}
use Rattle.cla_cli.specs.declared.unread.TooLong.{TooLong}
use Rattle.cla_cli.specs.Limits.{script_limit, table_limit}

-- a file is missing only where misses rose, and can't be read only where faults of reading rose; each count stays with
-- every other answer
abbrev pub HasUnreadCause : {T R : Type 0} → State → State → Result T (Unread R) → Type 0
HasUnreadCause old new (Err Missing) = Rose old.misses new.misses × (new.read_faults ≡ old.read_faults)
HasUnreadCause old new (Err Fault) = (new.misses ≡ old.misses) × Rose old.read_faults new.read_faults
HasUnreadCause old new (Err Memory) = (new.misses ≡ old.misses) × (new.read_faults ≡ old.read_faults)
HasUnreadCause old new (Err (Refused r)) = (new.misses ≡ old.misses) × (new.read_faults ≡ old.read_faults)
HasUnreadCause old new (Ok x) = (new.misses ≡ old.misses) × (new.read_faults ≡ old.read_faults)

-- no other file than this one is being read
abbrev pub ReadsNoOther : List ℕ → Option Reading → Type 0
ReadsNoOther name None = Unit {0}
ReadsNoOther name (Some r) = r.name ≡ name

-- What is known of a file that has to be there. `Holds` says what an answer tells of its text, and `Refuses` what a
-- refusal tells of it.
abbrev pub ReadsIn : {T R : Type 0} → (List ℕ → T → Type 0) → (List ℕ → R → Type 0) → Told → List ℕ →
    Result T (Unread R) → Type 0
ReadsIn Holds Refuses told name (Ok x) = (text : List ℕ) × (fin.get told name ≡ Some text) × Holds text x
ReadsIn Holds Refuses told name (Err Missing) = fin.get told name ≡ None
ReadsIn Holds Refuses told name (Err Fault) = Unit {0}
ReadsIn Holds Refuses told name (Err Memory) = Unit {0}
ReadsIn Holds Refuses told name (Err (Refused r)) = (text : List ℕ) × (fin.get told name ≡ Some text) × Refuses text r

abbrev pub ReadsWhereTold : {T R : Type 0} → (List ℕ → T → Type 0) → (List ℕ → R → Type 0) → Option Told → List ℕ →
    Result T (Unread R)
    → Type 0
ReadsWhereTold Holds Refuses None name result = Unit {0}
ReadsWhereTold Holds Refuses (Some told) name result = ReadsIn Holds Refuses told name result

-- a file that was opened is read from its first byte
abbrev pub Opens : {R : Type 0} → Option Told → List ℕ → Option Reading → Result (Unit {0}) (Unread R) → Type 0
Opens {R} told name reading (Ok u) = (reading ≡ Some (record { name = name; place = 0 }))
    × ReadsWhereTold {T = Unit {0}} {R = R} (λ text u. Unit {0}) (λ text r. ⊥) told name (Ok u)
Opens {R} told name reading (Err e) = (reading ≡ None)
    × ReadsWhereTold {T = Unit {0}} {R = R} (λ text u. Unit {0}) (λ text r. ⊥) told name (Err e)

-- the whole text of a script
abbrev pub IsText : List ℕ → Vec ℕ Global → Type 0
IsText text bytes = (bytes.items ≡ text) × (length text ≤ script_limit)

abbrev pub IsTooLong : List ℕ → TooLong → Type 0
IsTooLong text fault = script_limit < length text

abbrev pub ReadsText : Option Told → List ℕ → Result (Vec ℕ Global) (Unread TooLong) → Type 0
ReadsText told name result = ReadsWhereTold IsText IsTooLong told name result

-- a table
abbrev pub IsTable : ℕ → List ℕ → TableFile → Type 0
IsTable bits bytes t = table_in bits table_limit bytes ≡ Ok t

abbrev pub IsNoTable : ℕ → List ℕ → FileFault → Type 0
IsNoTable bits bytes fault = table_in bits table_limit bytes ≡ Err fault

-- why a file that is there isn't read as a table: a fault of its bytes, or one that was met while it was read
abbrev pub unread_by : FileFault → Unread FileFault
unread_by (file.Mtx mtx.Read) = Fault
unread_by (file.Mtx mtx.Memory) = Memory
unread_by (file.Pack pack.Read) = Fault
unread_by (file.Pack pack.Memory) = Memory
unread_by fault = Refused fault

abbrev pub ReadsTable : ℕ → Option Told → List ℕ → Result TableFile (Unread FileFault) → Type 0
ReadsTable bits told name result = ReadsWhereTold (IsTable bits) (IsNoTable bits) told name result
