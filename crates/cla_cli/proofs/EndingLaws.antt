-- How the endings of parts of a read make the ending of the whole.
use Rattle.std.proofs.Common.{◌≡◌, ℕ, List, Err, refl, ◌∙◌, inl, inr}
use Rattle.cla_io.specs.State.{State}
use Rattle.cla_cli.specs.declared.status.Status.{Status}
use Rattle.cla_cli.specs.declared.status.Status.TheVariants as answer
use Rattle.cla_cli.specs.declared.unfinished.Unfinished.{Unfinished}
use Rattle.cla_cli.specs.declared.unfinished.Unfinished.TheVariants as unfinished
use Rattle.cla_cli.specs.Run.{WriteFailed, FaultsCome, MissesCome}
use Rattle.cla_cli.specs.Parts.{Fits, HasEnding}

misses_after : (old mid new : State) (s : Status) → mid.misses ≡ old.misses → MissesCome mid new s →
    MissesCome old new s
misses_after old mid new answer.Missing same h = rw (← same) h
misses_after old mid new answer.Memory same h = tt
misses_after old mid new s same h = h ∙ same

write_failed_after : (old mid new : State) (f f' : ℕ) → mid.read_faults ≡ old.read_faults
    → mid.write_faults ≡ old.write_faults → FaultsCome mid new f f' WriteFailed → FaultsCome old new f f' WriteFailed
write_failed_after old mid new f f' reads writes (same, inl h) = (same ∙ reads, inl (h.0 ∙ writes, h.1))
write_failed_after old mid new f f' reads writes (same, inr h) = (same ∙ reads, inr ((rw (← writes) h.0), h.1))

-- after a read that left the counts as they were
pub ending_after : (old mid new : State) (f f' : ℕ) (e : Unfinished) → mid.read_faults ≡ old.read_faults
    → mid.write_faults ≡ old.write_faults → mid.misses ≡ old.misses → HasEnding {U = Unit {0}} mid new f f' (Err e)
    → HasEnding {U = Unit {0}} old new f f' (Err e)
ending_after old mid new f f' (unfinished.Refused status line) faults writes misses h =
    (h.0, (h.1.0 ∙ faults, (h.1.1.0 ∙ writes, h.1.1.1)), misses_after old mid new status misses h.2)
ending_after old mid new f f' (unfinished.Unread line) faults writes misses h =
    (((rw (← faults) h.0.0), (h.0.1.0 ∙ writes, h.0.1.1)), h.1 ∙ misses)
ending_after old mid new f f' unfinished.OutputUnwritten faults writes misses h =
    (write_failed_after old mid new f f' faults writes h.0, h.1 ∙ misses)
ending_after old mid new f f' (unfinished.FileUnwritten line) faults writes misses h =
    (write_failed_after old mid new f f' faults writes h.0, h.1 ∙ misses)
ending_after old mid new f f' unfinished.Memory faults writes misses h = tt

-- of a table that is refused by its budget, after a read that left the counts as they were
pub ending_over : (old new : State) (name : List ℕ) (budget size : ℕ) (e : Unfinished) →
    Fits {U = Unit {0}} name budget size (Err e)
    → new.read_faults ≡ old.read_faults → new.write_faults ≡ old.write_faults → new.misses ≡ old.misses
    → HasEnding {U = Unit {0}} old new 0 0 (Err e)
ending_over old new name budget size (unfinished.Refused status line) fits faults writes misses =
    rw fits.1.0 (tt, (faults, (writes, refl)), misses)
ending_over old new name budget size unfinished.Memory fits faults writes misses = tt
ending_over old new name budget size e fits faults writes misses = absurd fits.1
