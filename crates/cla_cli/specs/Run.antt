-- The clauses of the top call.
use Rattle.std.specs.Prelude.{◌≡◌, ℕ, ◌+◌, ◌≤◌, List, take, Option, Some, None, Contains, ◌⊎◌}
use Rattle.cla_spec.specs.Files.{Told}
use Rattle.cla_spec.specs.Effects.{Effect, Out, File, World, applied, IsFront, IsFrontBefore, grown}
use Rattle.cla_num.specs.Counts.{Counts}
use Rattle.cla_io.specs.State.{State, Reading}
use Rattle.cla_io.specs.Counts.{Rose}
use Rattle.cla_cli.specs.declared.status.Status.{Status}
use Rattle.cla_cli.specs.declared.status.Status.TheVariants.{Done, Memory, Usage, Missing, ReadFault, WriteFault}
use Rattle.cla_cli.specs.Texts.{memory_line, unreadable_line, unwritable_line}
use Rattle.cla_cli.specs.Outcome.{Outcome, outcome_of}

-- how a run ends: as the checks and the operators decide, or since something outside them failed
pub data Ending : Type 0 where
  Settled : Ending
  OutOfMemory : Ending
  ReadFailed : Ending
  WriteFailed : Ending

abbrev pub ending_of : Status → Ending
ending_of Memory = OutOfMemory
ending_of ReadFault = ReadFailed
ending_of WriteFault = WriteFailed
ending_of status = Settled

-- after the words, a check refuses with this status, or an operator fails
abbrev pub IsRefusal : Status → Type 0
IsRefusal Done = ⊥
IsRefusal Usage = ⊥
IsRefusal Memory = ⊥
IsRefusal ReadFault = ⊥
IsRefusal WriteFault = ⊥
IsRefusal status = Unit {0}

-- what is seen of a sink: its bytes, where it tells them, and its count of faults
pub record Written : Type 0 where
  pub told : Option (List ℕ)
  pub faults : ℕ

abbrev pub written : Option (List ℕ) → ℕ → Written
written told faults = record { told = told; faults = faults }

-- Counts of faults rise with the endings that tell of them and with no other: those of reading, and of writing those of
-- the output or of the files, one of them alone. With want of memory nothing is said, since it may come while another
-- ending is told.
abbrev pub FaultsCome : State → State → ℕ → ℕ → Ending → Type 0
FaultsCome old new before after Settled = (new.read_faults ≡ old.read_faults)
    × ((new.write_faults ≡ old.write_faults) × (after ≡ before))
FaultsCome old new before after OutOfMemory = Unit {0}
FaultsCome old new before after ReadFailed = Rose old.read_faults new.read_faults
    × ((new.write_faults ≡ old.write_faults) × (after ≡ before))
FaultsCome old new before after WriteFailed = (new.read_faults ≡ old.read_faults)
    × (((new.write_faults ≡ old.write_faults) × Rose before after)
    ⊎ (Rose old.write_faults new.write_faults × (after ≡ before)))

-- the count of faults that belongs to an effect rose: of the output, or of the files that are written
abbrev pub FaultRose : Effect → State → State → Written → Written → Type 0
FaultRose (Out text) old new out out' = Rose out.faults out'.faults
FaultRose (File name bytes) old new out out' = Rose old.write_faults new.write_faults

-- What an ending leaves of the world, and the line that tells it, if there is one. The outcome's effects are all
-- applied where it decides. A fault of reading is one of a file that the checks read, which all pass before it, and
-- leaves all as it was. A fault of writing comes before a next effect, whose count of faults rose.
abbrev pub Leaves : Outcome → World → World → State → State → Written → Written → Ending → Option (List ℕ) → Type 0
Leaves o w v old new out out' Settled line = (v ≡ applied o.effects w) × (line ≡ o.line)
Leaves o w v old new out out' OutOfMemory line = IsFront o.effects w v × (line ≡ Some memory_line)
Leaves o w v old new out out' ReadFailed line = (v ≡ w)
    × ((name : List ℕ) × Contains o.needed name × (line ≡ Some (unreadable_line name)))
Leaves o w v old new out out' WriteFailed line = (e : Effect) × IsFrontBefore o.effects e w v
    × FaultRose e old new out out' × (line ≡ Some (unwritable_line e))

-- a run over files that told and tell this may end so, with this line
abbrev pub MayEnd : Outcome → Told → Told → State → State → Written → Written → Ending → Option (List ℕ) → Type 0
MayEnd o told told' old new out out' ending line =
    FaultsCome old new out.faults out'.faults ending
    × Leaves o (record { told = told; out = out.told }) (record { told = told'; out = out'.told }) old new out
    out' ending line

-- a line stands on standard error, or a prefix of it where its faults rose
abbrev pub HasLine : Option (List ℕ) → Written → Written → Type 0
HasLine None err err' = err'.told ≡ err.told
HasLine (Some line) err err' = (err'.told ≡ grown err.told line) ⊎
    (Rose err.faults err'.faults × ((n : ℕ) × (err'.told ≡ grown err.told (take n line))))

-- a line stands there as far as memory was there for it
abbrev pub HasFrontOfLine : Option (List ℕ) → Written → Written → Type 0
HasFrontOfLine None err err' = err'.told ≡ err.told
HasFrontOfLine (Some line) err err' = (n : ℕ) × (err'.told ≡ grown err.told (take n line))

-- How a run ends: one witness ties its status, its effects and its line. Where memory is wanting, it was wanting for
-- the run or for the line of another ending.
abbrev pub Ends : Outcome → Told → Told → State → State → Written → Written → Written → Written → Status → Ending →
    Type 0
Ends o told told' old new out out' err err' status Settled = (o.status ≡ status)
    × MayEnd o told told' old new out out' Settled o.line
    × HasLine o.line err err'
Ends o told told' old new out out' err err' status OutOfMemory = (ending : Ending)
    × ((line : Option (List ℕ)) × MayEnd o told told' old new out out' ending line × HasFrontOfLine line err err')
Ends o told told' old new out out' err err' status ReadFailed = (line : Option (List ℕ))
    × MayEnd o told told' old new out out' ReadFailed line × HasLine line err err'
Ends o told told' old new out out' err err' status WriteFailed = (line : Option (List ℕ))
    × MayEnd o told told' old new out out' WriteFailed line × HasLine line err err'

-- the same, where the files tell
abbrev pub EndsWhereTold : ℕ → List (List ℕ) → Option Told → Option Told → State → State → Written → Written → Written →
    Written
    → Status → Type 0
EndsWhereTold bits words None told' old new out out' err err' status = told' ≡ None
EndsWhereTold bits words (Some told) None old new out out' err err' status = ⊥
EndsWhereTold bits words (Some told) (Some told') old new out out' err err' status =
    Ends (outcome_of bits words told) told told' old
    new out out' err err' status (ending_of status)

-- how often files were missing: once more with that status, and as often as before with others; with want of memory
-- nothing is said
abbrev pub MissesCome : State → State → Status → Type 0
MissesCome old new Missing = Rose old.misses new.misses
MissesCome old new Memory = Unit {0}
MissesCome old new status = new.misses ≡ old.misses

-- where every check passes, no operator fails and nothing outside fails, the command is done, unless memory is wanting
abbrev pub Completes : ℕ → List (List ℕ) → Option Told → State → State → ℕ → ℕ → Status → Type 0
Completes bits words None old new before after status = Unit {0}
Completes bits words (Some told) old new before after status =
    (outcome_of bits words told).status ≡ Done → (Rose old.read_faults new.read_faults → ⊥)
    → (Rose old.write_faults new.write_faults → ⊥) → (Rose before after → ⊥) → (status ≡ Done) ⊎ (status ≡ Memory)

-- no file is being written, whether files are steady stays, and no count of theirs falls
pub record Keeps (old new : State) : Type 0 where
  pub writing : new.writing ≡ None
  pub steady : new.steady ≡ old.steady
  pub write_faults : old.write_faults ≤ new.write_faults
  pub read_faults : old.read_faults ≤ new.read_faults
  pub misses : old.misses ≤ new.misses

-- counts didn't fall
pub record AreNotBelow (before now : Counts) : Type 0 where
  pub mults : before.mults ≤ now.mults
  pub maps : before.maps ≤ now.maps

-- counts rose by these, or by at most these
abbrev pub RiseBy : Counts → Counts → Counts → Type 0
RiseBy counts before now = (now.mults ≡ before.mults + counts.mults) × (now.maps ≡ before.maps + counts.maps)

pub record RiseByAtMost (counts before now : Counts) : Type 0 where
  pub not_below : AreNotBelow before now
  pub mults : now.mults ≤ before.mults + counts.mults
  pub maps : now.maps ≤ before.maps + counts.maps

-- a finished run has made exactly the outcome's operations, one that couldn't read a file none, and any other at most
-- these
abbrev pub CountsCome : Counts → Counts → Counts → Status → Type 0
CountsCome counts before now Done = RiseBy counts before now
CountsCome counts before now ReadFault = now ≡ before
CountsCome counts before now status = RiseByAtMost counts before now

abbrev pub CountsWhereTold : ℕ → List (List ℕ) → Option Told → Counts → Counts → Status → Type 0
CountsWhereTold bits words None before now status = AreNotBelow before now
CountsWhereTold bits words (Some told) before now status =
    CountsCome (outcome_of bits words told).counts before now status

-- the file that is being read at the end is the one of the start or one that the checks need
abbrev pub ReadsOnly : List (List ℕ) → Option Reading → Option Reading → Type 0
ReadsOnly needed old None = Unit {0}
ReadsOnly needed old (Some r) = (old ≡ Some r) ⊎ Contains needed r.name

abbrev pub ReadsOnlyNeeded : ℕ → List (List ℕ) → Option Told → Option Reading → Option Reading → Type 0
ReadsOnlyNeeded bits words None old new = Unit {0}
ReadsOnlyNeeded bits words (Some told) old new = ReadsOnly (outcome_of bits words told).needed old new
