-- What writing a file leaves.
use Rattle.std.specs.Prelude.{◌≡◌, ℕ, List, [], take, Option, Result, Ok, Err, ◌⊎◌}
use Rattle.cla_spec.specs.Files.{Told}
use Rattle.cla_spec.specs.Effects.{File}
use Rattle.cla_io.specs.Counts.{Rose}
use Rattle.cla_io.specs.Writes.{with_bytes}
use Rattle.cla_io.specs.declared.stop.Stop.{Stop}
use Rattle.cla_io.specs.declared.stop.Stop.TheVariants as stop
use Rattle.cla_io.specs.declared.stop.OutFault.{OutFault}
use Rattle.cla_io.specs.declared.stop.OutFault.TheVariants as fault
use Rattle.cla_cli.specs.declared.unfinished.Unfinished.{Unfinished}
use Rattle.cla_cli.specs.declared.unfinished.Unfinished.TheVariants as unfinished
use Rattle.cla_cli.specs.Texts.{unwritable_line}

-- The file of this name holds these bytes, where files tell. After an error it holds the first ones of them, or all
-- files hold what they did.
abbrev pub WritesFile : {E : Type 0} → List ℕ → List ℕ → Option Told → Option Told → Result (Unit {0}) E → Type 0
WritesFile name bytes told told' (Ok u) = told' ≡ with_bytes told name bytes
WritesFile name bytes told told' (Err e) =
    (told' ≡ told) ⊎ ((n : ℕ) × (told' ≡ with_bytes told name (take n bytes)))

-- Faults of writing rose where a write failed, and stay where the file stands whole. Where memory is wanting nothing is
-- said, since the end of the write may fail after that.
abbrev pub HasFileCause : ℕ → ℕ → Result (Unit {0}) Stop → Type 0
HasFileCause before now (Ok u) = now ≡ before
HasFileCause before now (Err stop.Failed) = Rose before now
HasFileCause before now (Err stop.Memory) = Unit {0}

-- what a write comes to: the failure of what was put decides, or else that of its end
abbrev pub first_failure : Result (Unit {0}) OutFault → Result (Unit {0}) Stop → Result (Unit {0}) Stop
first_failure (Ok u) ended = ended
first_failure (Err fault.Write) ended = Err stop.Failed
first_failure (Err fault.Memory) ended = Err stop.Memory

-- why the file of this name isn't written, as it is told
abbrev pub TellsUnwritten : List ℕ → Stop → Unfinished → Type 0
TellsUnwritten name stop.Failed (unfinished.FileUnwritten line) = line ≡ unwritable_line (File name [])
TellsUnwritten name reason unfinished.Memory = Unit {0}
TellsUnwritten name reason told = ⊥
