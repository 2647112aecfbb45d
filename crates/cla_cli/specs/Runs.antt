-- What statements leave, where they are run one after the other.
use Rattle.std.specs.Prelude.{◌≡◌, ℕ, List, Option, Some, None, Result, Ok, Err}
use Rattle.cla_spec.specs.Files.{Told}
use Rattle.cla_spec.specs.Effects.{Out, World, applied, IsFront, IsFrontBefore}
use Rattle.cla_io.specs.Counts.{Rose}
use Rattle.cla_io.specs.declared.stop.Stop.{Stop}
use Rattle.cla_io.specs.declared.stop.Stop.TheVariants as stop
use Rattle.cla_cli.specs.declared.statements.Halted.{Halted}
use Rattle.cla_cli.specs.declared.statements.Halted.TheVariants.{Operator, Unwritten, Memory}
use Rattle.cla_cli.specs.Statements.{Trace}

-- the world of these files with this output
abbrev pub world_of : Told → Option (List ℕ) → World
world_of told out = record { told = told; out = out }

-- What a trace leaves of the output. Its effects are all applied where the last statement is reached or an operator
-- fails; else a front of them, before a next one that can't be written.
abbrev pub Runs : {U : Type 0} → Told → Trace → Option (List ℕ) → Option (List ℕ) → Result U Halted → Type 0
Runs told trace out out' (Ok u) = (trace.fault ≡ None)
    × (world_of told out' ≡ applied trace.effects (world_of told out))
Runs told trace out out' (Err (Operator place fault)) = (trace.fault ≡ Some (place, fault))
    × (world_of told out' ≡ applied trace.effects (world_of told out))
Runs told trace out out' (Err Unwritten) = (text : List ℕ) × IsFrontBefore trace.effects (Out text) (world_of told out)
    (world_of told out')
Runs told trace out out' (Err Memory) = IsFront trace.effects (world_of told out) (world_of told out')

-- a statement leaves the rest to decide what the whole leaves, or is the last one
abbrev pub GoesOn : {U : Type 0} → Told → Trace → Trace → Option (List ℕ) → Option (List ℕ) → Result U Halted → Type 0
GoesOn told whole rest out out' (Ok u) =
    (end : Option (List ℕ)) (result : Result (Unit {0}) Halted) → Runs told rest out' end result →
    Runs told whole out end result
GoesOn told whole rest out out' (Err halted) = Runs {U = Unit {0}} told whole out out' (Err halted)

-- the count of faults of the output rose where it can't be written, and stays with every other answer
abbrev pub HasHaltCause : {U : Type 0} → ℕ → ℕ → Result U Halted → Type 0
HasHaltCause before after (Ok u) = after ≡ before
HasHaltCause before after (Err (Operator place fault)) = after ≡ before
HasHaltCause before after (Err Unwritten) = Rose before after
HasHaltCause before after (Err Memory) = after ≡ before

abbrev pub halted_by : Result (Unit {0}) Stop → Result (Unit {0}) Halted
halted_by (Ok u) = Ok tt
halted_by (Err stop.Failed) = Err Unwritten
halted_by (Err stop.Memory) = Err Memory
