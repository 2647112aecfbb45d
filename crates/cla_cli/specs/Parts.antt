-- What the parts of the top call do.
use Rattle.std.specs.Prelude.{◌≡◌, ◌≤◌, ◌<◌, ℕ, List, [], Option, Some, None, Contains, ◌⊎◌, Result, Ok, Err}
use Rattle.cla_spec.specs.Files.{Told}
use Rattle.cla_spec.specs.Effects.{Out}
use Rattle.cla_num.specs.Counts.{Counts}
use Rattle.cla_io.specs.State.{State, Reading}
use Rattle.cla_grammar.specs.declared.place.Place.{Place}
use Rattle.cla_script.specs.declared.fault.ScriptFault.{ScriptFault}
use Rattle.cla_script.specs.declared.fault.ScriptFault.TheVariants as script
use Rattle.cla_cli.specs.declared.status.Status.{Status}
use Rattle.cla_cli.specs.declared.status.Status.TheVariants as answer
use Rattle.cla_cli.specs.declared.status.BadKind.{BadKind}
use Rattle.cla_cli.specs.declared.status.BadKind.TheVariants as bad
use Rattle.cla_cli.specs.declared.unread.Unread.{Unread}
use Rattle.cla_cli.specs.declared.unread.Unread.TheVariants as unread
use Rattle.cla_cli.specs.declared.unread.TooLong.{TooLong}
use Rattle.cla_cli.specs.declared.unfinished.Unfinished.{Unfinished}
use Rattle.cla_cli.specs.declared.unfinished.Unfinished.TheVariants as unfinished
use Rattle.cla_cli.specs.declared.statements.Halted.{Halted}
use Rattle.cla_cli.specs.declared.statements.Halted.TheVariants as halted
use Rattle.cla_cli.specs.Texts.{memory_line, unreadable_line, unwritable_line, missing_line, script_line}
use Rattle.cla_cli.specs.Texts.{operator_line, budget_line}
use Rattle.cla_cli.specs.Limits.{script_limit}
use Rattle.cla_cli.specs.Outcome.{Outcome, Refusal, limit_refusal, refusal_at}
use Rattle.cla_cli.specs.Run.{Settled, OutOfMemory, ReadFailed, WriteFailed, IsRefusal, Written, MayEnd, FaultsCome}
use Rattle.cla_cli.specs.Run.{MissesCome, HasLine, HasFrontOfLine, RiseBy, RiseByAtMost, AreNotBelow}

-- A command is done, or why it isn't: each as one ending of its outcome.
abbrev pub Comes : {U : Type 0} → Outcome → Told → Told → State → State → Written → Written → Result U Unfinished →
    Type 0
Comes o told told' old new out out' (Ok u) = (o.status ≡ answer.Done)
    × MayEnd o told told' old new out out' Settled None
Comes o told told' old new out out' (Err (unfinished.Refused status line)) = (o.status ≡ status)
    × MayEnd o told told' old new out out' Settled (Some line)
Comes o told told' old new out out' (Err (unfinished.Unread line)) =
    MayEnd o told told' old new out out' ReadFailed (Some line)
Comes o told told' old new out out' (Err unfinished.OutputUnwritten) = MayEnd o told told' old new out out' WriteFailed
    (Some (unwritable_line (Out [])))
Comes o told told' old new out out' (Err (unfinished.FileUnwritten line)) =
    MayEnd o told told' old new out out' WriteFailed (Some line)
Comes o told told' old new out out' (Err unfinished.Memory) =
    MayEnd o told told' old new out out' OutOfMemory (Some memory_line)

abbrev pub ComesWhereTold : {U : Type 0} → (Told → Outcome) → Option Told → Option Told → State → State → Written →
    Written
    → Result U Unfinished → Type 0
ComesWhereTold o None told' old new out out' result = told' ≡ None
ComesWhereTold o (Some told) None old new out out' result = ⊥
ComesWhereTold o (Some told) (Some told') old new out out' result = Comes (o told) told told' old new out out' result

-- which counts tell of it, whether anything else is told or not
abbrev pub HasEnding : {U : Type 0} → State → State → ℕ → ℕ → Result U Unfinished → Type 0
HasEnding old new before after (Ok u) = FaultsCome old new before after Settled × (new.misses ≡ old.misses)
HasEnding old new before after (Err (unfinished.Refused status line)) = IsRefusal status
    × FaultsCome old new before after Settled
    × MissesCome old new status
HasEnding old new before after (Err (unfinished.Unread line)) = FaultsCome old new before after ReadFailed
    × (new.misses ≡ old.misses)
HasEnding old new before after (Err unfinished.OutputUnwritten) = FaultsCome old new before after WriteFailed
    × (new.misses ≡ old.misses)
HasEnding old new before after (Err (unfinished.FileUnwritten line)) = FaultsCome old new before after WriteFailed
    × (new.misses ≡ old.misses)
HasEnding old new before after (Err unfinished.Memory) = Unit {0}

-- the operations that were counted on the way
abbrev pub HasCounts : {U : Type 0} → Counts → Counts → Counts → Result U Unfinished → Type 0
HasCounts counts before now (Ok u) = RiseBy counts before now
HasCounts counts before now (Err (unfinished.Unread line)) = now ≡ before
HasCounts counts before now (Err (unfinished.Refused status line)) = RiseByAtMost counts before now
HasCounts counts before now (Err unfinished.OutputUnwritten) = RiseByAtMost counts before now
HasCounts counts before now (Err (unfinished.FileUnwritten line)) = RiseByAtMost counts before now
HasCounts counts before now (Err unfinished.Memory) = RiseByAtMost counts before now

abbrev pub HasCountsWhereTold : {U : Type 0} → (Told → Outcome) → Option Told → Counts → Counts → Result U Unfinished →
    Type 0
HasCountsWhereTold o None before now result = AreNotBelow before now
HasCountsWhereTold o (Some told) before now result = HasCounts (o told).counts before now result

-- no file is being read but one that the checks need
abbrev pub IsNeeded : List (List ℕ) → Option Reading → Type 0
IsNeeded needed None = Unit {0}
IsNeeded needed (Some r) = Contains needed r.name

abbrev pub IsNeededWhereTold : (Told → Outcome) → Option Told → Option Reading → Type 0
IsNeededWhereTold o None reading = Unit {0}
IsNeededWhereTold o (Some told) reading = IsNeeded (o told).needed reading

-- why a file of this name isn't read, as it is told; `refusal` is what a check answers of its text
abbrev pub TellsUnread : {R : Type 0} → (R → Refusal) → List ℕ → Unread R → Unfinished → Type 0
TellsUnread refusal name reason unfinished.Memory = Unit {0}
TellsUnread refusal name unread.Missing (unfinished.Refused status line) = (status ≡ answer.Missing)
    × (line ≡ missing_line name)
TellsUnread refusal name (unread.Refused r) (unfinished.Refused status line) = (status ≡ (refusal r).status)
    × (line ≡ (refusal r).line)
TellsUnread refusal name unread.Fault (unfinished.Unread line) = line ≡ unreadable_line name
TellsUnread refusal name reason told = ⊥

abbrev pub refusal_of_text : List ℕ → TooLong → Refusal
refusal_of_text name fault = limit_refusal name script_limit

-- a script is refused at a place, as it is told
abbrev pub RefusesAt : Place → BadKind → Unfinished → Type 0
RefusesAt place kind (unfinished.Refused status line) = (status ≡ answer.BadScript place kind)
    × (line ≡ script_line place kind)
RefusesAt place kind unfinished.Memory = Unit {0}
RefusesAt place kind told = ⊥

-- why a text is no script, as it is told
abbrev pub TellsFault : ScriptFault → Unfinished → Type 0
TellsFault (script.At place kind) told = RefusesAt place (bad.Script kind) told
TellsFault script.Memory told = told ≡ unfinished.Memory

-- a check of a script passes with this view of what was checked, or it refuses the script at a place
abbrev pub Passes : {T X : Type 0} → (T → X) → Result X Refusal → Result T Unfinished → Type 0
Passes view checked (Ok x) = checked ≡ Ok (view x)
Passes view checked (Err (unfinished.Refused status line)) = (place : Place)
    × ((kind : BadKind) × (status ≡ answer.BadScript place kind)
    × (line ≡ script_line place kind) × (checked ≡ Err (refusal_at place kind)))
Passes view checked (Err unfinished.Memory) = Unit {0}
Passes view checked (Err e) = ⊥

-- a table of so many bytes is refused by a budget, as it is told
abbrev pub Exceeds : List ℕ → ℕ → ℕ → Unfinished → Type 0
Exceeds name budget size (unfinished.Refused status line) = (status ≡ answer.OverBudget size budget)
    × (line ≡ budget_line name size budget)
Exceeds name budget size unfinished.Memory = Unit {0}
Exceeds name budget size told = ⊥

-- a table of so many bytes is within a budget, or it is refused; memory may be wanting
abbrev pub Fits : {U : Type 0} → List ℕ → ℕ → ℕ → Result U Unfinished → Type 0
Fits name budget size (Ok u) = size ≤ budget
Fits name budget size (Err unfinished.Memory) = Unit {0}
Fits name budget size (Err e) = (budget < size) × Exceeds name budget size e

-- the first checks of an outcome pass, and the rest of them decide; files that they read were needed
pub record Reaches (whole rest : Outcome) : Type 0 where
  pub status : whole.status ≡ rest.status
  pub effects : whole.effects ≡ rest.effects
  pub counts : whole.counts ≡ rest.counts
  pub line : whole.line ≡ rest.line
  pub needed : (name : List ℕ) → Contains rest.needed name → Contains whole.needed name

-- the checks of a part pass, and what follows decides; or one of them refuses, or a needed file can't be read
abbrev pub Lets : {T : Type 0} → (T → Outcome) → Outcome → Result T Unfinished → Type 0
Lets next o (Ok x) = Reaches o (next x)
Lets next o (Err (unfinished.Refused status line)) = (o.status ≡ status) × (o.effects ≡ []) × (o.line ≡ Some line)
Lets next o (Err (unfinished.Unread line)) = (file : List ℕ) × Contains o.needed file × (line ≡ unreadable_line file)
Lets next o (Err unfinished.OutputUnwritten) = ⊥
Lets next o (Err (unfinished.FileUnwritten line)) = ⊥
Lets next o (Err unfinished.Memory) = Unit {0}

-- why the statements ended before the last one, as it is told
abbrev pub TellsHalt : Halted → Unfinished → Type 0
TellsHalt (halted.Operator place fault) (unfinished.Refused status line) = (status ≡ answer.Operator place fault)
    × (line ≡ operator_line place fault)
TellsHalt halted.Unwritten unfinished.OutputUnwritten = Unit {0}
TellsHalt halted.Unwritten unfinished.Memory = ⊥
TellsHalt halt unfinished.Memory = Unit {0}
TellsHalt halt told = ⊥

-- a line is told: the status stays where it can't be written, and is that of want of memory where that is wanting
abbrev pub TellsLine : List ℕ → Status → Written → Written → Status → Type 0
TellsLine line status err err' result = ((result ≡ status) × HasLine (Some line) err err') ⊎
    ((result ≡ answer.Memory) × HasFrontOfLine (Some line) err err')

-- what a command that isn't done tells
abbrev pub Tells : Unfinished → Written → Written → Status → Type 0
Tells (unfinished.Refused status line) err err' result = TellsLine line status err err' result
Tells (unfinished.Unread line) err err' result = TellsLine line answer.ReadFault err err' result
Tells unfinished.OutputUnwritten err err' result =
    TellsLine (unwritable_line (Out [])) answer.WriteFault err err' result
Tells (unfinished.FileUnwritten line) err err' result = TellsLine line answer.WriteFault err err' result
Tells unfinished.Memory err err' result = TellsLine memory_line answer.Memory err err' result
