-- Bytes on their way to a sink.
use Rattle.std.specs.Prelude.{◌≡◌, ℕ, ◌≤◌, Bool, List, ◌++◌, Option, None, Some, Result, Ok, Err}
use Rattle.cla_io.specs.Counts.{HasCause}
use Rattle.cla_io.specs.Sinks.{PutsAll}
use Rattle.cla_io.specs.declared.stop.Stop.{Stop}
use Rattle.cla_io.specs.declared.stop.Stop.TheVariants.{Memory}
use Rattle.cla_print.specs.Parting.{IsParted, HasFront}

-- what is held back, or why nothing more goes to the sink
abbrev pub Pending : Type 0
Pending = Result (List ℕ) Stop

abbrev pub pending_in : Option Stop → List ℕ → Pending
pending_in None held = Ok held
pending_in (Some stop) held = Err stop

-- memory was wanting
abbrev pub wanting : Pending → Pending
wanting (Ok held) = Err Memory
wanting (Err stop) = Err stop

-- what became of bytes that were put behind those held back: the sink has the first of them all, and the others are
-- held
-- back; or it has a front of them, and nothing more goes to it
abbrev pub Goes : List ℕ → Pending → Option (List ℕ) → Pending → Option (List ℕ) → Type 0
Goes bytes (Ok held) old (Ok held') new = IsParted (held ++ bytes) old new held'
Goes bytes (Ok held) old (Err stop) new = HasFront (held ++ bytes) old new
Goes bytes (Err stop) old (Ok held) new = ⊥
Goes bytes (Err stop) old (Err stop') new = (stop' ≡ stop) × (new ≡ old)

-- the count of faults rose where the sink failed, and stays else
abbrev pub HasGone : Pending → ℕ → Pending → ℕ → Type 0
HasGone (Ok held) before state now = HasCause before now state
HasGone (Err stop) before state now = now ≡ before

-- bytes were put: from one state and sink to another
pub record Sent {O : Type 0} (told : O → Option (List ℕ)) (faults : O → ℕ) (steady : O → Bool) (kept : O → O → Type 0)
    (bytes : List ℕ) (old : Pending) (sink : O) (new : Pending) (sink' : O) : Type 0 where
  pub goes : Goes bytes old (told sink) new (told sink')
  pub later : faults sink ≤ faults sink'
  pub steady_on : steady sink' ≡ steady sink
  pub kept_on : kept sink sink'
  pub cause : HasGone old (faults sink) new (faults sink')

-- what an end answers: what was held back is put out, or nothing more was
abbrev pub Puts : Pending → Option (List ℕ) → Option (List ℕ) → Result (Unit {0}) Stop → Type 0
Puts (Ok held) old new result = PutsAll held old new result
Puts (Err stop) old new (Ok u) = ⊥
Puts (Err stop) old new (Err stop') = (stop' ≡ stop) × (new ≡ old)

abbrev pub HasPut : Pending → ℕ → ℕ → Result (Unit {0}) Stop → Type 0
HasPut (Ok held) before now result = HasCause before now result
HasPut (Err stop) before now result = now ≡ before

pub record Ends {O : Type 0} (told : O → Option (List ℕ)) (faults : O → ℕ) (steady : O → Bool) (kept : O → O → Type 0)
    (state : Pending) (sink sink' : O) (result : Result (Unit {0}) Stop) : Type 0 where
  pub puts : Puts state (told sink) (told sink') result
  pub later : faults sink ≤ faults sink'
  pub steady_on : steady sink' ≡ steady sink
  pub kept_on : kept sink sink'
  pub cause : HasPut state (faults sink) (faults sink') result
