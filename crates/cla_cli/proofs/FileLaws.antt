-- What writing a file says of an outcome.
use Rattle.std.proofs.Common.{◌≡◌, ◌≤◌, ℕ, List, [], length, take, Option, Some, None, Result, Ok, Err, refl, sym, ap}
use Rattle.std.proofs.Common.{subst, ◌∙◌, arith, inl, inr}
use Rattle.std.specs.Prelude.{IsSome}
use Rattle.std.specs.FinMap as fin
use Rattle.std.proofs.lemmas.List.{take_all}
use Rattle.cla_spec.specs.Files.{Told}
use Rattle.cla_spec.specs.Effects.{Effect, File, World, applied, IsFront, IsFrontBefore}
use Rattle.cla_io.specs.State.{State, WritingIsThere}
use Rattle.cla_io.specs.Counts.{HasCause}
use Rattle.cla_io.specs.Writes.{appended, held, with_bytes}
use Rattle.cla_io.specs.Kept.{KeptFiles}
use Rattle.cla_io.specs.Sinks.{Grows, PutsAll, HasWriteCause}
use Rattle.cla_io.specs.declared.stop.Stop.{Stop}
use Rattle.cla_io.specs.declared.stop.Stop.TheVariants as stop
use Rattle.cla_io.specs.declared.stop.OutFault.{OutFault}
use Rattle.cla_io.specs.declared.stop.OutFault.TheVariants as fault
use Rattle.cla_io.proofs.Growth.{appended_by_sink, written_whole}
use Rattle.cla_cli.specs.declared.unfinished.Unfinished.{Unfinished}
use Rattle.cla_cli.specs.declared.unfinished.Unfinished.TheVariants as unfinished
use Rattle.cla_cli.specs.Outcome.{Outcome, file_outcome}
use Rattle.cla_cli.specs.Run.{Written, Settled, FaultsCome}
use Rattle.cla_cli.specs.Runs.{world_of}
use Rattle.cla_cli.specs.Parts.{Comes, ComesWhereTold, HasEnding, Reaches}
use Rattle.cla_cli.specs.Writing.{WritesFile, HasFileCause, first_failure, TellsUnwritten}

-- What was put into a file that was begun anew, it holds.
put_whole : (told : Option Told) (begun mid : State) (name bytes : List ℕ) → begun.told ≡ with_bytes told name []
    → begun.writing ≡ Some name → KeptFiles begun mid → WritingIsThere mid
    → Grows (held begun.told begun.writing) (held mid.told mid.writing) bytes → mid.told ≡ with_bytes told name bytes
put_whole told begun mid name bytes starts names kept there grows =
    let is_open : IsSome begun.writing = rw names refl in
    appended_by_sink {U = Unit {0}} begun mid bytes (Ok tt) is_open there kept grows
    ∙ ap (λ (w : Option (List ℕ)). appended begun.told w bytes) names
    ∙ ap (λ (t : Option Told). appended t (Some name) bytes) starts
    ∙ written_whole told name bytes

ended_whole : (told told' : Option Told) (name bytes : List ℕ) (ended : Result (Unit {0}) Stop)
    → told' ≡ with_bytes told name bytes → WritesFile name bytes told told' ended
ended_whole told told' name bytes (Ok u) is = is
ended_whole told told' name bytes (Err e) is =
    inr (length bytes, is ∙ ap (with_bytes told name) (sym (take_all (length bytes) bytes (omega arith))))

-- what a write leaves, however it ended
pub file_ended : (told : Option Told) (begun mid new : State) (name bytes : List ℕ) (put : Result (Unit {0}) OutFault)
    (ended result : Result (Unit {0}) Stop) → begun.told ≡ with_bytes told name [] → begun.writing ≡ Some name
    → KeptFiles begun mid → WritingIsThere mid
    → PutsAll bytes (held begun.told begun.writing) (held mid.told mid.writing) put
    → new.told ≡ mid.told → result ≡ first_failure put ended → WritesFile name bytes told new.told result
file_ended told begun mid new name bytes (Ok u) ended result starts names kept there puts same is =
    rw is (ended_whole told new.told name bytes ended
    (same ∙ put_whole told begun mid name bytes starts names kept there puts))
file_ended told begun mid new name bytes (Err fault.Write) ended result starts names kept there puts same is =
    rw is (inr (puts.0, same ∙ put_whole told begun mid name (take puts.0 bytes) starts names kept there puts.1))
file_ended told begun mid new name bytes (Err fault.Memory) ended result starts names kept there puts same is =
    rw is (inr (puts.0, same ∙ put_whole told begun mid name (take puts.0 bytes) starts names kept there puts.1))

-- and how its faults rose
pub file_cause : (old begun mid new : ℕ) (put : Result (Unit {0}) OutFault) (ended result : Result (Unit {0}) Stop)
    → begun ≡ old → HasWriteCause begun mid put → HasCause mid new ended → mid ≤ new
    → result ≡ first_failure put ended → HasFileCause old new result
file_cause old begun mid new (Ok u) (Ok v) result starts puts ends later is = rw is (ends ∙ puts ∙ starts)
file_cause old begun mid new (Ok u) (Err stop.Failed) result starts puts ends later is =
    rw is (rw (puts ∙ starts) at ends)
file_cause old begun mid new (Ok u) (Err stop.Memory) result starts puts ends later is = rw is tt
file_cause old begun mid new (Err fault.Write) ended result starts puts ends later is =
    rw is (omega (arith, (rw starts at puts), later))
file_cause old begun mid new (Err fault.Memory) ended result starts puts ends later is = rw is tt

-- The file is the outcome's one effect: all of it stands,
file_applied : (o : Outcome) (t : Told) (out : Option (List ℕ)) (name bytes : List ℕ)
    → Reaches o (file_outcome name bytes)
    → world_of (fin.insert t name bytes) out ≡ applied o.effects (world_of t out)
file_applied o t out name bytes on = sym (ap (λ (es : List Effect). applied es (world_of t out)) on.effects)

pub file_written : (o : Told → Outcome) (told told' : Option Told) (name bytes : List ℕ) (old new : State)
    (out : Written)
    → ((t : Told) → told ≡ Some t → Reaches (o t) (file_outcome name bytes)) → told' ≡ with_bytes told name bytes
    → FaultsCome old new out.faults out.faults Settled
    → ComesWhereTold {U = Unit {0}} o told told' old new out out (Ok tt)
file_written o None told' name bytes old new out reaches is faults = is
file_written o (Some t) told' name bytes old new out reaches is faults =
    let on = reaches t refl in
    subst (λ (t' : Option Told). ComesWhereTold {U = Unit {0}} o (Some t) t' old new out out (Ok tt)) (sym is)
    (on.status, (faults, (file_applied (o t) t out.told name bytes on, sym on.line)))

-- or it is a front that comes before the file, or has its first bytes.
abbrev FileFront : Outcome → World → World → List ℕ → List ℕ → Type 0
FileFront o w v name bytes = IsFront o.effects w v × IsFrontBefore o.effects (File name bytes) w v

front_before : (o : Outcome) (w : World) (name bytes : List ℕ) → Reaches o (file_outcome name bytes)
    → FileFront o w w name bytes
front_before o w name bytes on =
    subst (λ (es : List Effect). IsFront es w w × IsFrontBefore es (File name bytes) w w) (sym on.effects)
    (inl refl, inl (refl, inl refl))

front_in_part : (o : Outcome) (t : Told) (out : Option (List ℕ)) (name bytes : List ℕ) (n : ℕ)
    → Reaches o (file_outcome name bytes)
    → FileFront o (world_of t out) (world_of (fin.insert t name (take n bytes)) out) name bytes
front_in_part o t out name bytes n on =
    subst (λ (es : List Effect). IsFront es (world_of t out) (world_of (fin.insert t name (take n bytes)) out)
    × IsFrontBefore es (File name bytes) (world_of t out) (world_of (fin.insert t name (take n bytes)) out))
    (sym on.effects) (inr (inl (n, refl)), inl (refl, inr (n, refl)))

-- why it isn't written, as it is told
unwritten_in : (o : Outcome) (t t' : Told) (name bytes : List ℕ) (old new : State) (out : Written) (reason : Stop)
    (e : Unfinished) → FileFront o (world_of t out.told) (world_of t' out.told) name bytes
    → new.read_faults ≡ old.read_faults → HasFileCause old.write_faults new.write_faults (Err reason)
    → TellsUnwritten name reason e → Comes {U = Unit {0}} o t t' old new out out (Err e)
unwritten_in o t t' name bytes old new out stop.Failed (unfinished.FileUnwritten line) front reads cause tells =
    ((reads, inr (cause, refl)), (File name bytes, front.1, cause, ap Some tells))
unwritten_in o t t' name bytes old new out reason unfinished.Memory front reads cause tells = (tt, (front.0, refl))
unwritten_in o t t' name bytes old new out reason e front reads cause tells = absurd tells

pub file_unwritten : (o : Told → Outcome) (told told' : Option Told) (name bytes : List ℕ) (old new : State)
    (out : Written) (reason : Stop) (e : Unfinished)
    → ((t : Told) → told ≡ Some t → Reaches (o t) (file_outcome name bytes))
    → WritesFile {E = Stop} name bytes told told' (Err reason) → new.read_faults ≡ old.read_faults
    → HasFileCause old.write_faults new.write_faults (Err reason) → TellsUnwritten name reason e
    → ComesWhereTold {U = Unit {0}} o told told' old new out out (Err e)
file_unwritten o None told' name bytes old new out reason e reaches (inl is) reads cause tells = is
file_unwritten o None told' name bytes old new out reason e reaches (inr is) reads cause tells = is.1
file_unwritten o (Some t) told' name bytes old new out reason e reaches (inl is) reads cause tells =
    subst (λ (t' : Option Told). ComesWhereTold {U = Unit {0}} o (Some t) t' old new out out (Err e)) (sym is)
    (unwritten_in (o t) t t name bytes old new out reason e
    (front_before (o t) (world_of t out.told) name bytes (reaches t refl)) reads cause tells)
file_unwritten o (Some t) told' name bytes old new out reason e reaches (inr is) reads cause tells =
    subst (λ (t' : Option Told). ComesWhereTold {U = Unit {0}} o (Some t) t' old new out out (Err e)) (sym is.1)
    (unwritten_in (o t) t (fin.insert t name (take is.0 bytes)) name bytes old new out reason e
    (front_in_part (o t) t out.told name bytes is.0 (reaches t refl)) reads cause tells)

-- and which counts tell of it
pub unwritten_ending : (old new : State) (faults : ℕ) (name : List ℕ) (reason : Stop) (e : Unfinished)
    → new.read_faults ≡ old.read_faults → new.misses ≡ old.misses
    → HasFileCause old.write_faults new.write_faults (Err reason) → TellsUnwritten name reason e
    → HasEnding {U = Unit {0}} old new faults faults (Err e)
unwritten_ending old new faults name stop.Failed (unfinished.FileUnwritten line) reads misses cause tells =
    ((reads, inr (cause, refl)), misses)
unwritten_ending old new faults name reason unfinished.Memory reads misses cause tells = tt
unwritten_ending old new faults name reason e reads misses cause tells = absurd tells
