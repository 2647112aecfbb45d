-- What the steps of the reader give.
use Rattle.std.specs.Prelude.{◌≡◌, ℤ, List, Result, Ok, Err, Option, Some, None, if◌then◌else◌}
use Rattle.cla_grammar.specs.Machine as machine
use Rattle.cla_grammar.specs.Machine.{State}
use Rattle.cla_grammar.specs.Reader.{is_dead}
use Rattle.cla_grammar.specs.Tree as tree
use Rattle.cla_grammar.specs.declared.words.ScriptKind.{ScriptKind}
use Rattle.cla_grammar.specs.declared.words.ScriptKind.TheVariants as kind
use Rattle.cla_script.specs.View.{tree_of, stack_of, span_of, statement_of}
use Rattle.cla_script.specs.declared.expr.Statement.{Statement}
use Rattle.cla_script.specs.declared.frame.Frame.{Frame}
use Rattle.cla_script.specs.declared.builder.Seen.{Seen}
use Rattle.cla_script.specs.declared.builder.Seen.TheVariants.{Nothing, Once, Parted, Both}
use Rattle.cla_script.specs.declared.builder.Part.{Part}
use Rattle.cla_script.specs.declared.builder.Part.TheVariants.{Rows, Cols}
use Rattle.cla_script.specs.declared.builder.Builder.{Builder}
use Rattle.cla_script.specs.declared.builder.Phase.{Phase}
use Rattle.cla_script.specs.declared.builder.Phase.TheVariants.{Start, After, Want, WantOpen, Have, InSpan, WantTwo}
use Rattle.cla_script.specs.declared.builder.Phase.TheVariants.{ReadOpen, ReadText, ReadClose, FileText, FileClose}
use Rattle.cla_script.specs.declared.builder.Phase.TheVariants.{Whole}
use Rattle.cla_script.specs.declared.refusal.Refusal.{Refusal}
use Rattle.cla_script.specs.declared.refusal.Refusal.TheVariants.{Memory, Kind}

abbrev pub seen_of : Seen → machine.Seen
seen_of Nothing = machine.Nothing
seen_of (Once n) = machine.Once n
seen_of (Parted n) = machine.Parted n
seen_of (Both n m) = machine.Both n m

abbrev pub part_of : Part → machine.Part
part_of Rows = machine.Rows
part_of (Cols s) = machine.Cols (span_of s)

abbrev pub phase_of : {N : Type 0} → (N → ℤ) → List (Frame N) → Phase N → State
phase_of value fs Start = machine.Start
phase_of value fs (After n) = machine.After n
phase_of value fs Want = machine.Want (stack_of value fs)
phase_of value fs WantOpen = machine.WantOpen (stack_of value fs)
phase_of value fs (Have b e) = machine.Have b (stack_of value fs) (tree_of value e)
phase_of value fs (InSpan p e part seen) = machine.InSpan p (stack_of value fs) (tree_of value e) (part_of part)
    (seen_of seen)
phase_of value fs (WantTwo p e) = machine.WantTwo p (stack_of value fs) (tree_of value e)
phase_of value fs (ReadOpen n) = machine.ReadOpen n
phase_of value fs (ReadText n) = machine.ReadText n
phase_of value fs (ReadClose n f) = machine.ReadClose n f
phase_of value fs (FileText k p e) = machine.FileText k p (tree_of value e)
phase_of value fs (FileClose k p e q f) = machine.FileClose k p (tree_of value e) q f
phase_of value fs (Whole s) = machine.Whole (statement_of value s)

abbrev pub state_of : {N : Type 0} → (N → ℤ) → Builder N → State
state_of value b = phase_of value b.frames.items b.phase

-- the next state, or why not; memory may be wanting anywhere
abbrev pub Tells : {N : Type 0} → (N → ℤ) → Result (Builder N) Refusal → Result State ScriptKind → Type 0
Tells value (Ok b) t = t ≡ Ok (state_of value b)
Tells value (Err Memory) t = Unit {0}
Tells value (Err (Kind k)) t = t ≡ Err k

-- a state that isn't dead
abbrev pub settled : State → Result State ScriptKind
settled u = if is_dead u then Err kind.Syntax else Ok u

-- the statement that ends here, or none
abbrev pub Joins : {N : Type 0} → (N → ℤ) → Result (Statement N) Refusal → Option tree.Statement → Type 0
Joins value (Ok s) t = t ≡ Some (statement_of value s)
Joins value (Err Memory) t = Unit {0}
Joins value (Err (Kind k)) t = (k ≡ kind.Syntax) × (t ≡ None)
