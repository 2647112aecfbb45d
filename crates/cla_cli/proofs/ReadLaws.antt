-- What the reads of a command say of its outcome.
use Rattle.std.proofs.Common.{◌≡◌, ℕ, ◌<◌, ◌≤◌, suc, List, [], ◌∷◌, length, nat_le, false, Option, Some, None, Result}
use Rattle.std.proofs.Common.{Ok, Err, refl, sym, ap, subst, ◌∙◌, arith, inl, inr, ◌++◌}
use Rattle.std.proofs.lemmas.List.{append_assoc, append-nil}
use Rattle.std.specs.Prelude.{Contains}
use Rattle.std.specs.FinMap as fin
use Rattle.std.proofs.lemmas.Bool.{le-leb}
use Rattle.std.proofs.lemmas.Bool.Decides.{nat_tests}
use Rattle.cla_spec.specs.Files.{Told}
use Rattle.cla_spec.specs.Matrix.{Matrix}
use Rattle.cla_io.specs.State.{Reading}
use Rattle.cla_tables.specs.declared.fault.FileFault.{FileFault}
use Rattle.cla_tables.specs.TableFiles.{TableFile, table_in}
use Rattle.cla_grammar.specs.Tree.{Statement}
use Rattle.cla_cli.specs.declared.status.Status.{Status}
use Rattle.cla_cli.specs.declared.unread.Unread.{Unread}
use Rattle.cla_cli.specs.declared.unread.Unread.TheVariants as unread
use Rattle.cla_cli.specs.declared.unread.TooLong.{TooLong}
use Rattle.cla_cli.specs.declared.unfinished.Unfinished.{Unfinished}
use Rattle.cla_cli.specs.declared.unfinished.Unfinished.TheVariants as unfinished
use Rattle.cla_cli.specs.Limits.{script_limit, table_limit}
use Rattle.cla_cli.specs.Outcome.{Outcome, Refusal, refused, needing, missing_refusal, limit_refusal, table_refusal}
use Rattle.cla_cli.specs.Outcome.{budget_refusal, unless_larger, unless_refused, checked_script, with_table}
use Rattle.cla_cli.specs.Outcome.{with_tables, reads_outcome, script_outcome}
use Rattle.cla_cli.specs.Needed.{ReadsNoOther, ReadsText, ReadsTable}
use Rattle.cla_cli.specs.Run.{ReadsOnly}
use Rattle.cla_cli.specs.Parts.{Fits, TellsUnread, refusal_of_text, IsNeeded, Reaches, Lets, Passes}

-- checks that pass lead from one outcome to the next
pub reaches_itself : (o : Outcome) → Reaches o o
reaches_itself o = record { status = refl; effects = refl; counts = refl; line = refl; needed = λ name has. has }

pub reaches_on : (a b c : Outcome) → Reaches a b → Reaches b c → Reaches a c
reaches_on a b c first then = record {
  status = first.status ∙ then.status;
  effects = first.effects ∙ then.effects;
  counts = first.counts ∙ then.counts;
  line = first.line ∙ then.line;
  needed = λ name has. first.needed name (then.needed name has);
}

needed_first : (name : List ℕ) (names : List (List ℕ)) → Contains (name ∷ names) name
needed_first name names = (0, omega arith, refl)

needed_later : (name first : List ℕ) (names : List (List ℕ)) → Contains names name → Contains (first ∷ names) name
needed_later name first names has = (suc has.0, omega (arith, has.1), has.2)

pub needing_reaches : (name : List ℕ) (o : Outcome) → Reaches (needing name o) o
needing_reaches name o = record {
  status = refl;
  effects = refl;
  counts = refl;
  line = refl;
  needed =
      λ other has. needed_later other name o.needed has;
}

pub lets_reached : {T : Type 0} (next : T → Outcome) (o p : Outcome) (r : Result T Unfinished) → Reaches o p →
    Lets next p r
    → Lets next o r
lets_reached next o p (Ok x) on h = reaches_on o p (next x) on h
lets_reached next o p (Err (unfinished.Refused status line)) on h = (on.status ∙ h.0, on.effects ∙ h.1, on.line ∙ h.2)
lets_reached next o p (Err (unfinished.Unread line)) on h = (h.0, on.needed h.0 h.1, h.2)
lets_reached next o p (Err unfinished.OutputUnwritten) on h = absurd h
lets_reached next o p (Err (unfinished.FileUnwritten line)) on h = absurd h
lets_reached next o p (Err unfinished.Memory) on h = tt

-- an error lets nothing follow
pub lets_error : {T U : Type 0} (next : T → Outcome) (then : U → Outcome) (o : Outcome) (e : Unfinished) →
    Lets next o (Err e)
    → Lets then o (Err e)
lets_error next then o (unfinished.Refused status line) h = h
lets_error next then o (unfinished.Unread line) h = h
lets_error next then o unfinished.OutputUnwritten h = absurd h
lets_error next then o (unfinished.FileUnwritten line) h = absurd h
lets_error next then o unfinished.Memory h = tt

-- a check of a script decides as its outcome says
pub passes_lets : {T X : Type 0} (view : T → X) (next : X → Outcome) (checked : Result X Refusal)
    (r : Result T Unfinished)
    → Passes view checked r → Lets (λ x. next (view x)) (unless_refused checked next) r
passes_lets view next checked (Ok x) h = subst (λ c. Reaches (unless_refused c next) (next (view x))) (sym h)
    (reaches_itself (next (view x)))
passes_lets view next checked (Err (unfinished.Refused status line)) h =
    subst (λ c. Lets (λ x. next (view x)) (unless_refused c next) (Err (unfinished.Refused status line))) (sym h.1.3)
    (sym h.1.1, refl, ap Some (sym h.1.2))
passes_lets view next checked (Err (unfinished.Unread line)) h = absurd h
passes_lets view next checked (Err unfinished.OutputUnwritten) h = absurd h
passes_lets view next checked (Err (unfinished.FileUnwritten line)) h = absurd h
passes_lets view next checked (Err unfinished.Memory) h = tt

-- a script whose text was read
script_there : (bits budget : ℕ) (told : Told) (name text : List ℕ) → fin.get told name ≡ Some text →
    length text ≤ script_limit
    → script_outcome bits budget told name
    ≡ needing name (unless_refused (checked_script bits text) (reads_outcome bits budget told))
script_there bits budget told name text there short = rw (there, le-leb (length text) script_limit short) refl

pub script_reached : (bits budget : ℕ) (told : Told) (name text : List ℕ) → fin.get told name ≡ Some text →
    length text ≤ script_limit
    → Reaches (script_outcome bits budget told name)
    (unless_refused (checked_script bits text) (reads_outcome bits budget told))
script_reached bits budget told name text there short =
    rw (script_there bits budget told name text there short) (needing_reaches name _)

pub script_read : {T : Type 0} (view : T → List Statement) (bits budget : ℕ) (told : Told) (name text bytes : List ℕ)
    (r : Result T Unfinished)
    → fin.get told name ≡ Some text → bytes ≡ text → length text ≤ script_limit →
    Passes view (checked_script bits bytes) r
    → Lets (λ x. reads_outcome bits budget told (view x)) (script_outcome bits budget told name) r
script_read view bits budget told name text bytes r there same short passes =
    lets_reached (λ x. reads_outcome bits budget told (view x)) (script_outcome bits budget told name)
    (unless_refused (checked_script bits text) (reads_outcome bits budget told)) r
    (script_reached bits budget told name text there short)
    (passes_lets view (reads_outcome bits budget told) (checked_script bits text) r (rw same at passes))

-- what a refusal leaves, whatever the files that were read
refused_as : (o : Outcome) (refusal : Refusal) (names : List (List ℕ)) (status : Status) (line : List ℕ)
    → o ≡ record (refused refusal) { needed = names } → status ≡ refusal.status → line ≡ refusal.line
    → (o.status ≡ status) × (o.effects ≡ []) × (o.line ≡ Some line)
refused_as o refusal names status line e a b = (
  ap (λ (x : Outcome). x.status) e ∙ sym a,
  ap (λ (x : Outcome). x.effects) e,
  ap (λ (x : Outcome). x.line) e
      ∙ ap Some (sym b),
)

-- a script that isn't there, or is too long
script_missing : (bits budget : ℕ) (told : Told) (name : List ℕ) → fin.get told name ≡ None
    → script_outcome bits budget told name ≡ record (refused (missing_refusal name)) { needed = name ∷ [] }
script_missing bits budget told name none = rw none refl

longer : (n limit : ℕ) → limit < n → nat_le n limit ≡ false
longer n limit h = grind (arith, nat_tests)

script_too_long : (bits budget : ℕ) (told : Told) (name text : List ℕ) → fin.get told name ≡ Some text →
    script_limit < length text
    → script_outcome bits budget told name ≡ record (refused (limit_refusal name script_limit)) { needed = name ∷ [] }
script_too_long bits budget told name text there long = rw (there, longer (length text) script_limit long) refl

-- why a script isn't read, as it is told
pub script_unread : {T : Type 0} (next : T → Outcome) (bits budget : ℕ) (told : Told) (name : List ℕ)
    (u : Unread TooLong) (r : Unfinished)
    → ReadsText (Some told) name (Err u) → TellsUnread (refusal_of_text name) name u r
    → Lets next (script_outcome bits budget told name) (Err r)
script_unread next bits budget told name u unfinished.Memory h t = tt
script_unread next bits budget told name unread.Missing (unfinished.Refused status line) h t =
    refused_as _ (missing_refusal name)
    (name ∷ []) status line (script_missing bits budget told name h) t.0 t.1
script_unread next bits budget told name (unread.Refused fault) (unfinished.Refused status line) h t = refused_as _
    (limit_refusal name script_limit) (name ∷ []) status line (script_too_long bits budget told name h.0 h.1 h.2) t.0
    t.1
script_unread next bits budget told name unread.Fault (unfinished.Unread line) h t = (name, needed_first name _, t)
script_unread next bits budget told name u r h t = absurd t

-- a table that was read
table_there : (bits budget : ℕ) (told : Told) (name bytes : List ℕ) (t : TableFile) (next : TableFile → Outcome)
    → fin.get told name ≡ Some bytes → table_in bits table_limit bytes ≡ Ok t
    → with_table bits budget told name next ≡ needing name (unless_larger name budget t.bytes (next t))
table_there bits budget told name bytes t next there found = rw (there, found) refl

table_read : (bits budget : ℕ) (told : Told) (name : List ℕ) (t : TableFile) (next : TableFile → Outcome)
    → ReadsTable bits (Some told) name (Ok t)
    → Reaches (with_table bits budget told name next) (unless_larger name budget t.bytes (next t))
table_read bits budget told name t next h =
    rw (table_there bits budget told name h.0 t next h.1 h.2) (needing_reaches name _)

-- one that is within its budget
fitting : (name : List ℕ) (budget size : ℕ) (o : Outcome) → size ≤ budget → Reaches (unless_larger name budget size o) o
fitting name budget size o fits = rw (le-leb size budget fits) (reaches_itself o)

pub table_within : (bits budget : ℕ) (told : Told) (name : List ℕ) (t : TableFile) (next : TableFile → Outcome)
    → ReadsTable bits (Some told) name (Ok t) → Fits {U = Unit {0}} name budget t.bytes (Ok tt)
    → Reaches (with_table bits budget told name next) (next t)
table_within bits budget told name t next h fits =
    reaches_on (with_table bits budget told name next) (unless_larger name budget t.bytes (next t)) (next t)
    (table_read bits budget told name t next h) (fitting name budget t.bytes (next t) fits)

-- and one that isn't
over : (name : List ℕ) (budget size : ℕ) (o : Outcome) → budget < size
    → unless_larger name budget size o ≡ record (refused (budget_refusal name size budget)) { needed = [] }
over name budget size o past = rw (longer size budget past) refl

exceeds : {T : Type 0} (next : T → Outcome) (name : List ℕ) (budget size : ℕ) (o : Outcome) (e : Unfinished)
    → Fits {U = Unit {0}} name budget size (Err e) → Lets next (unless_larger name budget size o) (Err e)
exceeds next name budget size o (unfinished.Refused status line) h =
    refused_as _ (budget_refusal name size budget) [] status line (over name budget size o h.0) h.1.0 h.1.1
exceeds next name budget size o unfinished.Memory h = tt
exceeds next name budget size o e h = absurd h.1

pub table_exceeds : {T : Type 0} (then : T → Outcome) (bits budget : ℕ) (told : Told) (name : List ℕ) (t : TableFile)
    (next : TableFile → Outcome) (e : Unfinished)
    → ReadsTable bits (Some told) name (Ok t) → Fits {U = Unit {0}} name budget t.bytes (Err e)
    → Lets then (with_table bits budget told name next) (Err e)
table_exceeds then bits budget told name t next e h fits =
    lets_reached then (with_table bits budget told name next) (unless_larger name budget t.bytes (next t)) (Err e)
    (table_read bits budget told name t next h) (exceeds then name budget t.bytes (next t) e fits)

-- a table that isn't there, or isn't of the form
table_missing : (bits budget : ℕ) (told : Told) (name : List ℕ) (next : TableFile → Outcome) → fin.get told name ≡ None
    → with_table bits budget told name next ≡ record (refused (missing_refusal name)) { needed = name ∷ [] }
table_missing bits budget told name next none = rw none refl

table_of_no_form : (bits budget : ℕ) (told : Told) (name bytes : List ℕ) (fault : FileFault)
    (next : TableFile → Outcome)
    → fin.get told name ≡ Some bytes → table_in bits table_limit bytes ≡ Err fault
    → with_table bits budget told name next ≡ record (refused (table_refusal name fault)) { needed = name ∷ [] }
table_of_no_form bits budget told name bytes fault next there bad = rw (there, bad) refl

-- why a table isn't read, as it is told
pub table_unread : {T : Type 0} (then : T → Outcome) (bits budget : ℕ) (told : Told) (name : List ℕ)
    (next : TableFile → Outcome) (u : Unread FileFault) (r : Unfinished) → ReadsTable bits (Some told) name (Err u) →
    TellsUnread (table_refusal name) name u r
    → Lets then (with_table bits budget told name next) (Err r)
table_unread then bits budget told name next u unfinished.Memory h t = tt
table_unread then bits budget told name next unread.Missing (unfinished.Refused status line) h t =
    refused_as _ (missing_refusal name) (name ∷ []) status line (table_missing bits budget told name next h) t.0 t.1
table_unread then bits budget told name next (unread.Refused fault) (unfinished.Refused status line) h t =
    refused_as _ (table_refusal name fault) (name ∷ []) status line
    (table_of_no_form bits budget told name h.0 fault next h.1 h.2) t.0 t.1
table_unread then bits budget told name next unread.Fault (unfinished.Unread line) h t = (name, needed_first name _, t)
table_unread then bits budget told name next u r h t = absurd t

-- the file that is being read is one that is needed
needed_in : (needed : List (List ℕ)) (name : List ℕ) (reading : Option Reading) → Contains needed name →
    ReadsNoOther name reading
    → IsNeeded needed reading
needed_in needed name None has h = tt
needed_in needed name (Some r) has h = rw h has

pub script_needed : (bits budget : ℕ) (told : Told) (name : List ℕ) (reading : Option Reading) →
    ReadsNoOther name reading
    → IsNeeded (script_outcome bits budget told name).needed reading
script_needed bits budget told name reading h = needed_in (script_outcome bits budget told name).needed name reading
    (0, omega arith, refl) h

pub table_needed : (bits budget : ℕ) (told : Told) (name : List ℕ) (next : TableFile → Outcome)
    (reading : Option Reading)
    → ReadsNoOther name reading → IsNeeded (with_table bits budget told name next).needed reading
table_needed bits budget told name next reading h =
    needed_in (with_table bits budget told name next).needed name reading (0, omega arith, refl) h

-- and so is one that the tables need, or the one before them
pub tables_needed : (bits budget : ℕ) (told : Told) (name : List ℕ) (o : Outcome) (old reading : Option Reading) →
    ReadsNoOther name old
    → Reaches (script_outcome bits budget told name) o → ReadsOnly o.needed old reading →
    IsNeeded (script_outcome bits budget told name).needed reading
tables_needed bits budget told name o old None h on only = tt
tables_needed bits budget told name o old (Some r) h on (inl same) =
    subst (IsNeeded (script_outcome bits budget told name).needed) same
    (script_needed bits budget told name old h)
tables_needed bits budget told name o old (Some r) h on (inr has) = on.needed r.name has

-- some tables were read, and the rest of them decide
abbrev pub ReachesRest : ℕ → ℕ → Told → List (List ℕ) → List (List ℕ) → List Matrix → (List Matrix → Outcome) → Type 0
ReachesRest bits budget told all rest done next = (then : List Matrix → Outcome)
    × ((ms : List Matrix) → then ms ≡ next (done ++ ms))
    × Reaches (with_tables bits budget told all next) (with_tables bits budget told rest then)

pub none_read : (bits budget : ℕ) (told : Told) (all : List (List ℕ)) (next : List Matrix → Outcome) →
    ReachesRest bits budget told all all [] next
none_read bits budget told all next = (next, (λ ms. refl), reaches_itself _)

pub one_read : (bits budget : ℕ) (told : Told) (all : List (List ℕ)) (name : List ℕ) (rest : List (List ℕ))
    (done : List Matrix) (m : Matrix)
    (next : List Matrix → Outcome) → ReachesRest bits budget told all (name ∷ rest) done next
    → ((after : Matrix → Outcome) → Reaches (with_table bits budget told name (λ t. after t.matrix)) (after m))
    → ReachesRest bits budget told all rest (done ++ m ∷ []) next
one_read bits budget told all name rest done m next so_far read = (
  λ ms. so_far.0 (m ∷ ms),
  λ ms. so_far.1 (m ∷ ms) ∙ ap next (sym (append_assoc done (m ∷ []) ms)),
  reaches_on _ _ _ so_far.2 (read (λ x. with_tables bits budget told rest (λ ms. so_far.0 (x ∷ ms)))),
)

pub all_read : (bits budget : ℕ) (told : Told) (all : List (List ℕ)) (done : List Matrix) (next : List Matrix → Outcome)
    → ReachesRest bits budget told all [] done next → Reaches (with_tables bits budget told all next) (next done)
all_read bits budget told all done next so_far =
    subst (λ (o : Outcome). Reaches (with_tables bits budget told all next) o)
    (so_far.1 [] ∙ ap next (append-nil done)) so_far.2

pub one_unread : {U : Type 0} (then : U → Outcome) (bits budget : ℕ) (told : Told) (all : List (List ℕ)) (name : List ℕ)
    (rest : List (List ℕ))
    (done : List Matrix) (next : List Matrix → Outcome) (e : Unfinished) →
    ReachesRest bits budget told all (name ∷ rest) done next
    → ((after : Matrix → Outcome) → Lets after (with_table bits budget told name (λ t. after t.matrix)) (Err e))
    → Lets then (with_tables bits budget told all next) (Err e)
one_unread then bits budget told all name rest done next e so_far read =
    let after : Matrix → Outcome = λ x. with_tables bits budget told rest (λ ms. so_far.0 (x ∷ ms)) in
    lets_error after then (with_tables bits budget told all next) e
    (lets_reached after (with_tables bits budget told all next)
    (with_table bits budget told name (λ t. after t.matrix)) (Err e) so_far.2 (read after))

pub one_needed : (bits budget : ℕ) (told : Told) (all : List (List ℕ)) (name : List ℕ) (rest : List (List ℕ))
    (done : List Matrix)
    (next : List Matrix → Outcome) (old reading : Option Reading) →
    ReachesRest bits budget told all (name ∷ rest) done next
    → ReadsNoOther name reading → ReadsOnly (with_tables bits budget told all next).needed old reading
one_needed bits budget told all name rest done next old None so_far h = tt
one_needed bits budget told all name rest done next old (Some r) so_far h =
    inr (rw h (so_far.2.needed name (needed_first name _)))
