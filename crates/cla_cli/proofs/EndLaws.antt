-- How the endings of parts make the endings of a run.
use Rattle.std.proofs.Common.{◌≡◌, ℕ, List, [], ◌∷◌, length, Option, Some, None, Result, Ok, Err, refl, sym, ap}
use Rattle.std.proofs.Common.{subst, ◌∙◌, ◌⊎◌, arith, inl, inr}
use Rattle.std.proofs.lemmas.List.{take_all}
use Rattle.cla_spec.specs.Files.{Told}
use Rattle.cla_spec.specs.Effects.{Effect, Out, World, applied, applied_one, IsFront, IsFrontBefore, grown}
use Rattle.cla_num.specs.Counts.{Counts, zero_counts}
use Rattle.cla_io.specs.State.{State, Reading}
use Rattle.cla_cli.specs.declared.status.Status.{Status}
use Rattle.cla_cli.specs.declared.status.Status.TheVariants as answer
use Rattle.cla_cli.specs.declared.unfinished.Unfinished.{Unfinished}
use Rattle.cla_cli.specs.declared.unfinished.Unfinished.TheVariants as unfinished
use Rattle.cla_cli.specs.declared.statements.Halted.{Halted}
use Rattle.cla_cli.specs.declared.statements.Halted.TheVariants as halted
use Rattle.cla_cli.specs.Texts.{memory_line, usage_line, unwritable_line}
use Rattle.cla_words.specs.Words.{Command, accepted_command}
use Rattle.cla_cli.specs.Statements.{Trace}
use Rattle.cla_cli.specs.Outcome.{Outcome, refused, usage_refusal, status_after, line_after, evaluated}
use Rattle.cla_cli.specs.Outcome.{command_outcome, outcome_of}
use Rattle.cla_cli.specs.Run.{Ending, Settled, OutOfMemory, ReadFailed, WriteFailed, ending_of, IsRefusal, Written}
use Rattle.cla_cli.specs.Run.{FaultsCome, MayEnd, HasLine, HasFrontOfLine, Ends, EndsWhereTold, Completes, RiseBy}
use Rattle.cla_cli.specs.Run.{RiseByAtMost, CountsCome, CountsWhereTold, ReadsOnly, ReadsOnlyNeeded}
use Rattle.cla_cli.specs.Runs.{world_of, Runs, HasHaltCause}
use Rattle.cla_cli.specs.Parts.{Comes, ComesWhereTold, HasEnding, HasCounts, HasCountsWhereTold, IsNeeded}
use Rattle.cla_cli.specs.Parts.{IsNeededWhereTold, Reaches, Lets, TellsHalt, TellsLine, Tells}

-- nothing is a front of any effects
front_nothing : (es : List Effect) (w : World) → IsFront es w w
front_nothing [] w = refl
front_nothing (e ∷ es) w = inl refl

-- a status of a refusal settles the run
settled : (s : Status) → IsRefusal s → ending_of s ≡ Settled
settled answer.Done h = absurd h
settled answer.Usage h = absurd h
settled answer.Memory h = absurd h
settled answer.ReadFault h = absurd h
settled answer.WriteFault h = absurd h
settled s h = refl

-- and all of them are one
front_all : (es : List Effect) (w : World) → IsFront es w (applied es w)
front_all [] w = refl
front_all (e ∷ es) w = inr (inr (front_all es (applied_one e w)))

whole_front : (line : List ℕ) (err err' : Written) → HasLine (Some line) err err' → HasFrontOfLine (Some line) err err'
whole_front line err err' (inl h) =
    (length line, h ∙ ap (grown err.told) (sym (take_all (length line) line (omega arith))))
whole_front line err err' (inr h) = h.1

-- where a read or a refusal ends the script, nothing was put out
read_ends_in : {T : Type 0} (next : T → Outcome) (o : Outcome) (t : Told) (old new : State) (out : Written)
    (e : Unfinished)
    → Lets next o (Err e) → HasEnding {U = T} old new 0 0 (Err e) → Comes {U = Unit {0}} o t t old new out out (Err e)
read_ends_in next o t old new out (unfinished.Refused status line) h ending =
    (h.0, ((ending.1.0, (ending.1.1.0, refl)), (rw h.1 refl, sym h.2)))
read_ends_in next o t old new out (unfinished.Unread line) h ending =
    ((ending.0.0, (ending.0.1.0, refl)), (refl, (h.0, h.1, ap Some h.2)))
read_ends_in next o t old new out unfinished.OutputUnwritten h ending = absurd h
read_ends_in next o t old new out (unfinished.FileUnwritten line) h ending = absurd h
read_ends_in next o t old new out unfinished.Memory h ending =
    (tt, (front_nothing o.effects (record { told = t; out = out.told }), refl))

pub read_ends : {T : Type 0} (next : T → Outcome) (o : Told → Outcome) (told told' : Option Told) (old new : State)
    (out : Written) (e : Unfinished)
    → told' ≡ told → ((t : Told) → told ≡ Some t → Lets next (o t) (Err e))
    → HasEnding {U = T} old new 0 0 (Err e)
    → ComesWhereTold {U = Unit {0}} o told told' old new out out (Err e)
read_ends next o None told' old new out e same h ending = same
read_ends next o (Some t) told' old new out e same h ending =
    subst (λ (t' : Option Told). ComesWhereTold {U = Unit {0}} o (Some t) t' old new out out (Err e)) (sym same)
    (read_ends_in next (o t) t old new out e (h t refl) ending)

-- where it was read, its statements decide
pub statements_done : (o : Told → Outcome) (told told' : Option Told) (counts : Counts) (trace : Trace)
    (old new : State)
    (out out' : Written)
    → told' ≡ told → ((t : Told) → told ≡ Some t → Reaches (o t) (evaluated counts trace))
    → new.read_faults ≡ old.read_faults → new.write_faults ≡ old.write_faults
    → ((t : Told) → Runs {U = Unit {0}} t trace out.told out'.told (Ok tt))
    → HasHaltCause {U = Unit {0}} out.faults out'.faults (Ok tt)
    → ComesWhereTold {U = Unit {0}} o told told' old new out out' (Ok tt)
statements_done o None told' counts trace old new out out' same reaches reads writes runs cause = same
statements_done o (Some t) told' counts trace old new out out' same reaches reads writes runs cause =
    let r = reaches t refl in
    let none : trace.fault ≡ None = (runs t).0 in
    subst (λ (t' : Option Told). ComesWhereTold {U = Unit {0}} o (Some t) t' old new out out' (Ok tt)) (sym same) (
      r.status ∙ ap status_after none,
      (
        (reads, (writes, cause)),
        (
          (runs t).1 ∙ sym (ap (λ (es : List Effect). applied es (world_of t out.told)) r.effects),
          sym (r.line ∙ ap line_after none),
        ),
      ),
    )

halts_in : (t : Told) (o : Outcome) (counts : Counts) (trace : Trace) (old new : State) (out out' : Written)
    (h : Halted) (e : Unfinished)
    → Reaches o (evaluated counts trace) → new.read_faults ≡ old.read_faults → new.write_faults ≡ old.write_faults
    → Runs {U = Unit {0}} t trace out.told out'.told (Err h)
    → HasHaltCause {U = Unit {0}} out.faults out'.faults (Err h) → TellsHalt h e
    → Comes {U = Unit {0}} o t t old new out out' (Err e)
halts_in t o counts trace old new out out' (halted.Operator place fault) (unfinished.Refused status line) r reads writes
    runs cause tells = (
      r.status ∙ ap status_after runs.0 ∙ sym tells.0,
      (
        (reads, (writes, cause)),
        (
          runs.1 ∙ sym (ap (λ (es : List Effect). applied es (world_of t out.told)) r.effects),
          ap Some tells.1 ∙ sym (r.line ∙ ap line_after runs.0),
        ),
      ),
    )
halts_in t o counts trace old new out out' (halted.Operator place fault) unfinished.Memory r reads writes runs cause
    tells = (
      tt,
      (
        subst (λ (es : List Effect). IsFront es (world_of t out.told) (world_of t out'.told)) (sym r.effects)
            (subst (λ (v : World). IsFront trace.effects (world_of t out.told) v) (sym runs.1)
            (front_all trace.effects (world_of t out.told))),
        refl,
      ),
    )
halts_in t o counts trace old new out out' halted.Unwritten unfinished.OutputUnwritten r reads writes runs cause
    tells = (
      (reads, inl (writes, cause)),
      (
        Out runs.0,
        subst (λ (es : List Effect). IsFrontBefore es (Out runs.0) (world_of t out.told) (world_of t out'.told))
            (sym r.effects) runs.1,
        cause,
        refl,
      ),
    )
halts_in t o counts trace old new out out' halted.Memory unfinished.Memory r reads writes runs cause tells = (
  tt,
  (
    subst (λ (es : List Effect). IsFront es (world_of t out.told) (world_of t out'.told)) (sym r.effects) runs,
    refl,
  ),
)
halts_in t o counts trace old new out out' h e r reads writes runs cause tells = absurd tells

pub statements_halt : (o : Told → Outcome) (told told' : Option Told) (counts : Counts) (trace : Trace)
    (old new : State)
    (out out' : Written) (h : Halted) (e : Unfinished)
    → told' ≡ told → ((t : Told) → told ≡ Some t → Reaches (o t) (evaluated counts trace))
    → new.read_faults ≡ old.read_faults → new.write_faults ≡ old.write_faults
    → ((t : Told) → Runs {U = Unit {0}} t trace out.told out'.told (Err h))
    → HasHaltCause {U = Unit {0}} out.faults out'.faults (Err h) → TellsHalt h e
    → ComesWhereTold {U = Unit {0}} o told told' old new out out' (Err e)
statements_halt o None told' counts trace old new out out' h e same reaches reads writes runs cause tells = same
statements_halt o (Some t) told' counts trace old new out out' h e same reaches reads writes runs cause tells =
    subst (λ (t' : Option Told). ComesWhereTold {U = Unit {0}} o (Some t) t' old new out out' (Err e)) (sym same)
    (halts_in t (o t) counts trace old new out out' h e (reaches t refl) reads writes (runs t) cause tells)

-- and which counts tell of it
pub halt_ending : (old new : State) (f f' : ℕ) (h : Halted) (e : Unfinished)
    → new.read_faults ≡ old.read_faults → new.write_faults ≡ old.write_faults → new.misses ≡ old.misses
    → HasHaltCause {U = Unit {0}} f f' (Err h) → TellsHalt h e
    → HasEnding {U = Unit {0}} old new f f' (Err e)
halt_ending old new f f' (halted.Operator place fault) (unfinished.Refused status line) reads writes misses cause
    tells =
    rw tells.0 (tt, (reads, (writes, cause)), misses)
halt_ending old new f f' halted.Unwritten unfinished.OutputUnwritten reads writes misses cause tells =
    ((reads, inl (writes, cause)), misses)
halt_ending old new f f' h unfinished.Memory reads writes misses cause tells = tt
halt_ending old new f f' h e reads writes misses cause tells = absurd tells

-- and the operations that were counted
pub done_counted : (o : Told → Outcome) (told : Option Told) (counts : Counts) (trace : Trace) (before now : Counts)
    → ((t : Told) → told ≡ Some t → Reaches (o t) (evaluated counts trace))
    → RiseBy counts before now
    → HasCountsWhereTold {U = Unit {0}} o told before now (Ok tt)
done_counted o None counts trace before now reaches rise =
    record { mults = omega (arith, rise.0); maps = omega (arith, rise.1) }
done_counted o (Some t) counts trace before now reaches rise =
    subst (λ (work : Counts). RiseBy work before now) (sym (reaches t refl).counts) rise

halt_counted_in : (work before now : Counts) (h : Halted) (e : Unfinished) → TellsHalt h e →
    RiseByAtMost work before now
    → HasCounts {U = Unit {0}} work before now (Err e)
halt_counted_in work before now (halted.Operator place fault) (unfinished.Unread line) tells rise = absurd tells
halt_counted_in work before now halted.Unwritten (unfinished.Unread line) tells rise = absurd tells
halt_counted_in work before now halted.Memory (unfinished.Unread line) tells rise = absurd tells
halt_counted_in work before now h (unfinished.Refused status line) tells rise = rise
halt_counted_in work before now h unfinished.OutputUnwritten tells rise = rise
halt_counted_in work before now h (unfinished.FileUnwritten line) tells rise = rise
halt_counted_in work before now h unfinished.Memory tells rise = rise

pub halt_counted : (o : Told → Outcome) (told : Option Told) (counts : Counts) (trace : Trace) (before now : Counts)
    (h : Halted) (e : Unfinished)
    → ((t : Told) → told ≡ Some t → Reaches (o t) (evaluated counts trace)) → TellsHalt h e
    → RiseByAtMost counts before now
    → HasCountsWhereTold {U = Unit {0}} o told before now (Err e)
halt_counted o None counts trace before now h e reaches tells rise = rise.not_below
halt_counted o (Some t) counts trace before now h e reaches tells rise =
    halt_counted_in (o t).counts before now h e tells
    (subst (λ (work : Counts). RiseByAtMost work before now) (sym (reaches t refl).counts) rise)

-- the file that is being read is one that is needed
pub needed_where_told : (o : Told → Outcome) (told : Option Told) (reading : Option Reading)
    → ((t : Told) → told ≡ Some t → IsNeeded (o t).needed reading) → IsNeededWhereTold o told reading
needed_where_told o None reading h = tt
needed_where_told o (Some t) reading h = h t refl

none_counted : (counts before : Counts) → RiseByAtMost counts before before
none_counted counts before = record
    { not_below = record { mults = omega arith; maps = omega arith }; mults = omega arith; maps = omega arith }

no_counts_in : (counts before : Counts) (e : Unfinished) → HasCounts {U = Unit {0}} counts before before (Err e)
no_counts_in counts before (unfinished.Refused status line) = none_counted counts before
no_counts_in counts before (unfinished.Unread line) = refl
no_counts_in counts before unfinished.OutputUnwritten = none_counted counts before
no_counts_in counts before (unfinished.FileUnwritten line) = none_counted counts before
no_counts_in counts before unfinished.Memory = none_counted counts before

-- and nothing was counted
pub no_counts : (o : Told → Outcome) (told : Option Told) (before : Counts) (e : Unfinished)
    → HasCountsWhereTold {U = Unit {0}} o told before before (Err e)
no_counts o None before e = record { mults = omega arith; maps = omega arith }
no_counts o (Some t) before e = no_counts_in (o t).counts before e

-- nor is anything counted by a command whose outcome counts nothing
pub uncounted : (o : Told → Outcome) (told : Option Told) (before : Counts) (r : Result (Unit {0}) Unfinished)
    → ((t : Told) → (o t).counts ≡ zero_counts) → HasCountsWhereTold {U = Unit {0}} o told before before r
uncounted o None before r none = record { mults = omega arith; maps = omega arith }
uncounted o (Some t) before (Ok u) none =
    subst (λ (counts : Counts). RiseBy counts before before) (sym (none t)) (omega arith, omega arith)
uncounted o (Some t) before (Err e) none = no_counts_in (o t).counts before e

-- a line that was told ends the run as its status says, or for want of memory
line_ends : (o : Outcome) (told told' : Told) (old new : State) (out out' err err' : Written) (ending : Ending)
    (line : List ℕ)
    (status result : Status)
    → MayEnd o told told' old new out out' ending (Some line)
    → (HasLine (Some line) err err' → Ends o told told' old new out out' err err' status (ending_of status))
    → TellsLine line status err err' result
    → Ends o told told' old new out out' err err' result (ending_of result)
line_ends o told told' old new out out' err err' ending line status result may whole (inl h) = rw h.0 (whole h.1)
line_ends o told told' old new out out' err err' ending line status result may whole (inr h) =
    rw h.0 (ending, (Some line, may, h.1))

-- a refusal's line
refusal_ends : (o : Outcome) (told told' : Told) (old new : State) (out out' err err' : Written) (status : Status)
    (line : List ℕ)
    → IsRefusal status → o.status ≡ status → MayEnd o told told' old new out out' Settled (Some line) →
    HasLine (Some line) err err'
    → Ends o told told' old new out out' err err' status (ending_of status)
refusal_ends o told told' old new out out' err err' status line refuses same may has =
    rw (settled status refuses) (
      same,
      (may.0, (may.1.0, refl)),
      subst (λ (l : Option (List ℕ)). HasLine l err err')
          may.1.1 has,
    )

-- why a command isn't done, as it is told, is how the run ends
tells_end : (o : Outcome) (told told' : Told) (old new : State) (out out' err err' : Written) (e : Unfinished)
    (result : Status)
    → Comes {U = Unit {0}} o told told' old new out out' (Err e) →
    HasEnding {U = Unit {0}} old new out.faults out'.faults (Err e)
    → Tells e err err' result → Ends o told told' old new out out' err err' result (ending_of result)
tells_end o told told' old new out out' err err' (unfinished.Refused status line) result comes ending tells =
    line_ends o told told' old new out out' err err' Settled line status result comes.1
    (λ has. refusal_ends o told told' old new out out' err err' status line ending.0 comes.0 comes.1 has) tells
tells_end o told told' old new out out' err err' (unfinished.Unread line) result comes ending tells =
    line_ends o told told' old new out out' err err' ReadFailed line answer.ReadFault result comes
    (λ has. (Some line, comes, has)) tells
tells_end o told told' old new out out' err err' unfinished.OutputUnwritten result comes ending tells =
    line_ends o told told' old new out out' err err' WriteFailed (unwritable_line (Out [])) answer.WriteFault result
    comes
    (λ has. (Some (unwritable_line (Out [])), comes, has)) tells
tells_end o told told' old new out out' err err' (unfinished.FileUnwritten line) result comes ending tells =
    line_ends o told told' old new out out' err err' WriteFailed line answer.WriteFault result comes
    (λ has. (Some line, comes, has)) tells
tells_end o told told' old new out out' err err' unfinished.Memory result comes ending tells =
    line_ends o told told' old new out out' err err' OutOfMemory memory_line answer.Memory result comes
    (λ has. (OutOfMemory, (Some memory_line, comes, whole_front memory_line err err' has))) tells

accepted_outcome : (bits : ℕ) (words : List (List ℕ)) (t : Told) (command : Command) → accepted_command words
    ≡ Some command
    → command_outcome bits t command ≡ outcome_of bits words t
accepted_outcome bits words t command accepted = rw accepted refl

pub unfinished_ends : (bits : ℕ) (words : List (List ℕ)) (command : Command) (told told' : Option Told)
    (old new : State)
    (out out' err err' : Written) (e : Unfinished) (result : Status)
    → accepted_command words ≡ Some command → ComesWhereTold {U = Unit {0}} (λ t. command_outcome bits t command)
    told told' old new out out' (Err e)
    → HasEnding {U = Unit {0}} old new out.faults out'.faults (Err e) → Tells e err err' result
    → EndsWhereTold bits words told told' old new out out' err err' result
unfinished_ends bits words command None told' old new out out' err err' e result accepted comes ending tells = comes
unfinished_ends bits words command (Some t) None old new out out' err err' e result accepted comes ending tells =
    absurd comes
unfinished_ends bits words command (Some t) (Some t') old new out out' err err' e result accepted comes ending tells =
    subst (λ (o : Outcome). Ends o t t' old new out out' err err' result (ending_of result))
    (accepted_outcome bits words t command accepted)
    (tells_end (command_outcome bits t command) t t' old new out out' err err' e result comes ending tells)

pub done_ends : (bits : ℕ) (words : List (List ℕ)) (command : Command) (told told' : Option Told) (old new : State)
    (out out' err : Written)
    → accepted_command words ≡ Some command → ComesWhereTold {U = Unit {0}} (λ t. command_outcome bits t command)
    told told' old new out out' (Ok tt)
    → EndsWhereTold bits words told told' old new out out' err err answer.Done
done_ends bits words command None told' old new out out' err accepted comes = comes
done_ends bits words command (Some t) None old new out out' err accepted comes = absurd comes
done_ends bits words command (Some t) (Some t') old new out out' err accepted comes =
    subst (λ (o : Outcome). Ends o t t' old new out out' err err answer.Done Settled)
    (accepted_outcome bits words t command accepted)
    (comes.0, (comes.1.0, (comes.1.1.0, refl)), subst (λ (l : Option (List ℕ)). HasLine l err err) comes.1.1.1 refl)

-- of the counts of faults of writing one rose
neither_rose : {A B C D : Type 0} → (A × B) ⊎ (C × D) → (C → ⊥) → (B → ⊥) → ⊥
neither_rose (inl h) no_file no_out = no_out h.1
neither_rose (inr h) no_file no_out = no_file h.0

-- where nothing outside fails, the outcome is what comes
pub completes_by : (bits : ℕ) (words : List (List ℕ)) (told told' : Option Told) (old new : State)
    (out out' err err' : Written)
    (result : Status)
    → EndsWhereTold bits words told told' old new out out' err err' result
    → FaultsCome old new out.faults out'.faults (ending_of result) →
    Completes bits words told old new out.faults out'.faults result
completes_by bits words None told' old new out out' err err' result ends faults = tt
completes_by bits words (Some t) None old new out out' err err' result ends faults = absurd ends
completes_by bits words (Some t) (Some t') old new out out' err err' answer.Done ends faults =
    λ done no_read no_file no_out. inl refl
completes_by bits words (Some t) (Some t') old new out out' err err' answer.Memory ends faults =
    λ done no_read no_file no_out. inr refl
completes_by bits words (Some t) (Some t') old new out out' err err' answer.ReadFault ends faults =
    λ done no_read no_file no_out. absurd (no_read faults.0)
completes_by bits words (Some t) (Some t') old new out out' err err' answer.WriteFault ends faults =
    λ done no_read no_file no_out. absurd (neither_rose faults.1 no_file no_out)
completes_by bits words (Some t) (Some t') old new out out' err err' result ends faults =
    λ done no_read no_file no_out. (let both = sym done ∙ ends.0 in absurd (cc))

usage_outcome : (bits : ℕ) (words : List (List ℕ)) (t : Told) → accepted_command words ≡ None
    → refused usage_refusal ≡ outcome_of bits words t
usage_outcome bits words t none = rw none refl

-- words that are no command
pub usage_ends : (bits : ℕ) (words : List (List ℕ)) (told : Option Told) (s : State) (out err err' : Written)
    (result : Status)
    → accepted_command words ≡ None → TellsLine usage_line answer.Usage err err' result
    → EndsWhereTold bits words told told s s out out err err' result
usage_ends bits words None s out err err' result none tells = refl
usage_ends bits words (Some t) s out err err' result none tells =
    subst (λ (o : Outcome). Ends o t t s s out out err err' result (ending_of result)) (usage_outcome bits words t none)
    (line_ends (refused usage_refusal) t t s s out out err err' Settled usage_line answer.Usage result
    ((refl, (refl, refl)), (refl, refl))
    (λ has. (refl, ((refl, (refl, refl)), (refl, refl)), has)) tells)

-- words that aren't read, since memory is wanting
pub words_unread : (bits : ℕ) (words : List (List ℕ)) (told : Option Told) (s : State) (out err err' : Written)
    (result : Status) → TellsLine memory_line answer.Memory err err' result
    → EndsWhereTold bits words told told s s out out err err' result
words_unread bits words None s out err err' result tells = refl
words_unread bits words (Some t) s out err err' result tells =
    let o = outcome_of bits words t in
    let none = front_nothing o.effects (record { told = t; out = out.told }) in
    line_ends o t t s s out out err err' OutOfMemory memory_line answer.Memory result (tt, (none, refl))
    (λ has. (OutOfMemory, (Some memory_line, (tt, (none, refl)), whole_front memory_line err err' has))) tells

pub is_memory : (line : List ℕ) (err err' : Written) (result : Status)
    → TellsLine line answer.Memory err err' result → result ≡ answer.Memory
is_memory line err err' result (inl h) = h.0
is_memory line err err' result (inr h) = h.0

pub usage_faults : (s : State) (faults : ℕ) (line : List ℕ) (err err' : Written) (result : Status)
    → TellsLine line answer.Usage err err' result → FaultsCome s s faults faults (ending_of result)
usage_faults s faults line err err' result (inl h) = rw h.0 (refl, (refl, refl))
usage_faults s faults line err err' result (inr h) = rw h.0 tt

pub done_counts : (bits : ℕ) (words : List (List ℕ)) (command : Command) (told : Option Told) (before now : Counts)
    → accepted_command words ≡ Some command
    → HasCountsWhereTold {U = Unit {0}} (λ t. command_outcome bits t command) told before now (Ok tt) →
    CountsWhereTold bits words told before now answer.Done
done_counts bits words command None before now accepted h = h
done_counts bits words command (Some t) before now accepted h =
    subst (λ (o : Outcome). CountsCome o.counts before now answer.Done)
    (accepted_outcome bits words t command accepted) h

refusal_counts : (s : Status) (counts before now : Counts) → IsRefusal s → RiseByAtMost counts before now →
    CountsCome counts before now s
refusal_counts answer.Done counts before now refuses h = absurd refuses
refusal_counts answer.ReadFault counts before now refuses h = absurd refuses
refusal_counts s counts before now refuses h = h

unfinished_counts_in : (counts before now : Counts) (old new : State) (f f' : ℕ) (err err' : Written) (e : Unfinished)
    (result : Status)
    → HasCounts {U = Unit {0}} counts before now (Err e) → HasEnding {U = Unit {0}} old new f f' (Err e) →
    Tells e err err' result
    → CountsCome counts before now result
unfinished_counts_in counts before now old new f f' err err' (unfinished.Refused s line) result h ending (inl told) =
    rw told.0
    (refusal_counts s counts before now ending.0 h)
unfinished_counts_in counts before now old new f f' err err' (unfinished.Refused s line) result h ending (inr told) =
    rw told.0 h
unfinished_counts_in counts before now old new f f' err err' (unfinished.Unread line) result h ending (inl told) =
    rw told.0 h
unfinished_counts_in counts before now old new f f' err err' (unfinished.Unread line) result h ending (inr told) =
    rw (told.0, h)
    (none_counted counts before)
unfinished_counts_in counts before now old new f f' err err' unfinished.OutputUnwritten result h ending (inl told) =
    rw told.0 h
unfinished_counts_in counts before now old new f f' err err' unfinished.OutputUnwritten result h ending (inr told) =
    rw told.0 h
unfinished_counts_in counts before now old new f f' err err' (unfinished.FileUnwritten line) result h ending
    (inl told) = rw told.0 h
unfinished_counts_in counts before now old new f f' err err' (unfinished.FileUnwritten line) result h ending
    (inr told) = rw told.0 h
unfinished_counts_in counts before now old new f f' err err' unfinished.Memory result h ending (inl told) = rw told.0 h
unfinished_counts_in counts before now old new f f' err err' unfinished.Memory result h ending (inr told) = rw told.0 h

pub unfinished_counts : (bits : ℕ) (words : List (List ℕ)) (command : Command) (told : Option Told)
    (before now : Counts) (old new : State)
    (f f' : ℕ) (err err' : Written) (e : Unfinished) (result : Status)
    → accepted_command words ≡ Some command →
    HasCountsWhereTold {U = Unit {0}} (λ t. command_outcome bits t command) told before now (Err e)
    → HasEnding {U = Unit {0}} old new f f' (Err e) → Tells e err err' result
    → CountsWhereTold bits words told before now result
unfinished_counts bits words command None before now old new f f' err err' e result accepted h ending tells = h
unfinished_counts bits words command (Some t) before now old new f f' err err' e result accepted h ending tells =
    subst (λ (o : Outcome). CountsCome o.counts before now result) (accepted_outcome bits words t command accepted)
    (unfinished_counts_in (command_outcome bits t command).counts before now old new f f' err err' e result h ending
    tells)

pub unfinished_faults : (old new : State) (f f' : ℕ) (err err' : Written) (e : Unfinished) (result : Status)
    → HasEnding {U = Unit {0}} old new f f' (Err e) → Tells e err err' result →
    FaultsCome old new f f' (ending_of result)
unfinished_faults old new f f' err err' (unfinished.Refused s line) result ending (inl told) =
    rw (told.0, settled s ending.0)
    ending.1
unfinished_faults old new f f' err err' (unfinished.Refused s line) result ending (inr told) = rw told.0 tt
unfinished_faults old new f f' err err' (unfinished.Unread line) result ending (inl told) = rw told.0 ending.0
unfinished_faults old new f f' err err' (unfinished.Unread line) result ending (inr told) = rw told.0 tt
unfinished_faults old new f f' err err' unfinished.OutputUnwritten result ending (inl told) = rw told.0 ending.0
unfinished_faults old new f f' err err' unfinished.OutputUnwritten result ending (inr told) = rw told.0 tt
unfinished_faults old new f f' err err' (unfinished.FileUnwritten line) result ending (inl told) =
    rw told.0 ending.0
unfinished_faults old new f f' err err' (unfinished.FileUnwritten line) result ending (inr told) = rw told.0 tt
unfinished_faults old new f f' err err' unfinished.Memory result ending (inl told) = rw told.0 tt
unfinished_faults old new f f' err err' unfinished.Memory result ending (inr told) = rw told.0 tt

no_refusal : (s : Status) → IsRefusal s → s ≡ answer.Usage → ⊥
no_refusal s refuses e = subst IsRefusal e refuses

line_of_no_usage : (line : List ℕ) (err err' : Written) (s result : Status) → (s ≡ answer.Usage → ⊥) →
    TellsLine line s err err' result
    → result ≡ answer.Usage → ⊥
line_of_no_usage line err err' s result other (inl told) e = other (sym told.0 ∙ e)
line_of_no_usage line err err' s result other (inr told) e = (let both = sym told.0 ∙ e in absurd (cc))

-- accepted words don't come to nothing
pub no_usage : (old new : State) (f f' : ℕ) (err err' : Written) (e : Unfinished) (result : Status)
    → HasEnding {U = Unit {0}} old new f f' (Err e) → Tells e err err' result → result ≡ answer.Usage → ⊥
no_usage old new f f' err err' (unfinished.Refused s line) result ending tells e =
    line_of_no_usage line err err' s result
    (no_refusal s ending.0) tells e
no_usage old new f f' err err' (unfinished.Unread line) result ending tells e =
    line_of_no_usage line err err' answer.ReadFault result
    (λ h. absurd (cc)) tells e
no_usage old new f f' err err' unfinished.OutputUnwritten result ending tells e =
    line_of_no_usage (unwritable_line (Out [])) err err'
    answer.WriteFault result (λ h. absurd (cc)) tells e
no_usage old new f f' err err' (unfinished.FileUnwritten line) result ending tells e =
    line_of_no_usage line err err' answer.WriteFault result (λ h. absurd (cc)) tells e
no_usage old new f f' err err' unfinished.Memory result ending tells e =
    line_of_no_usage memory_line err err' answer.Memory result
    (λ h. absurd (cc)) tells e

only_needed : (needed : List (List ℕ)) (old reading : Option Reading) → IsNeeded needed reading →
    ReadsOnly needed old reading
only_needed needed old None h = tt
only_needed needed old (Some r) h = inr h

pub reads_only_needed : (bits : ℕ) (words : List (List ℕ)) (command : Command) (told : Option Told)
    (old reading : Option Reading)
    → accepted_command words ≡ Some command → IsNeededWhereTold (λ t. command_outcome bits t command) told reading
    → ReadsOnlyNeeded bits words told old reading
reads_only_needed bits words command None old reading accepted h = tt
reads_only_needed bits words command (Some t) old reading accepted h =
    subst (λ (o : Outcome). ReadsOnly o.needed old reading)
    (accepted_outcome bits words t command accepted) (only_needed (command_outcome bits t command).needed old reading h)

pub not_both : (bits : ℕ) (words : List (List ℕ)) (command : Command) → accepted_command words ≡ Some command
    → accepted_command words ≡ None → ⊥
not_both bits words command accepted none = (let both = sym accepted ∙ none in absurd (cc))
