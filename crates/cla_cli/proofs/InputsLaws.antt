-- How the reads of statements come one after the other.
use Rattle.std.proofs.Common.{◌≡◌, ◌≤◌, ◌<◌, ℕ, ℤ, suc, ◌+◌, List, [], ◌∷◌, ◌++◌, length, drop, get_or, Option, Some}
use Rattle.std.proofs.Common.{None, Ok, Err, refl, sym, ap, subst, ◌∙◌, drop-cons, length-append, arith, inl}
use Rattle.std.proofs.Math.Numerals.{add-one}
use Rattle.std.proofs.lemmas.List.{drop_all}
use Rattle.cla_spec.specs.Files.{Told}
use Rattle.cla_spec.specs.Matrix.{Matrix}
use Rattle.cla_io.specs.State.{State, Reading}
use Rattle.cla_io.specs.Reads.{OnlyReads}
use Rattle.cla_grammar.specs.Tree as tree
use Rattle.cla_script.specs.declared.expr.Statement.{Statement}
use Rattle.cla_script.specs.declared.expr.Statement.TheVariants.{Read, Let, Print, Write, Pack}
use Rattle.cla_script.specs.View.{statement_of}
use Rattle.cla_script.specs.Reads.{statements_of}
use Rattle.cla_check.specs.Scripts.{reads_in}
use Rattle.cla_cli.specs.declared.unfinished.Unfinished.{Unfinished}
use Rattle.cla_cli.specs.Statements.{files_read}
use Rattle.cla_cli.specs.Outcome.{Outcome, with_table, with_tables, reads_outcome, tables_outcome, statements_outcome}
use Rattle.cla_cli.specs.Outcome.{script_outcome, checked_statements}
use Rattle.cla_cli.specs.Needed.{ReadsNoOther}
use Rattle.cla_cli.specs.Run.{ReadsOnly}
use Rattle.cla_cli.specs.Parts.{IsNeeded, Reaches, Lets, Passes}
use Rattle.cla_cli.proofs.ReadLaws.{ReachesRest, one_read, one_unread, one_needed, reaches_on, lets_reached}
use Rattle.cla_cli.proofs.ReadLaws.{passes_lets, tables_needed}

-- the next statement, and those after it
next_of : {N : Type 0} (value : N → ℤ) (items : List (Statement N)) (i : ℕ) (x : Statement N) → i < length items →
    x ≡ get_or items i x
    → statements_of value (drop i items) ≡ statement_of value x ∷ statements_of value (drop (i + 1) items)
next_of value items i x in_list is = rw (add-one i)
    (ap (statements_of value) (drop-cons items i x in_list)
    ∙ ap (λ y. statement_of value y ∷ statements_of value (drop (suc i) items)) (sym is))

pub next_reads : {N : Type 0} (value : N → ℤ) (items : List (Statement N)) (i : ℕ) (x : Statement N)
    (name file : List ℕ) → i < length items
    → x ≡ get_or items i x → x ≡ Read name file
    → (files_read (statements_of value (drop i items)) ≡ file ∷ files_read (statements_of value (drop (i + 1) items)))
    × (reads_in (statements_of value (drop i items)) ≡ suc (reads_in (statements_of value (drop (i + 1) items))))
next_reads value items i x name file in_list is reads =
    let next = next_of value items i x in_list is
    ∙ ap (λ y. statement_of value y ∷ statements_of value (drop (i + 1) items)) reads in
    (ap files_read next, ap reads_in next)

keeps_reads : {N : Type 0} (value : N → ℤ) (x : Statement N) (xs : List tree.Statement) →
    ((name file : List ℕ) → x ≡ Read name file → ⊥)
    → (files_read (statement_of value x ∷ xs) ≡ files_read xs) × (reads_in (statement_of value x ∷ xs) ≡ reads_in xs)
keeps_reads value (Read n f) xs other = absurd (other n f refl)
keeps_reads value (Let n e) xs other = (refl, refl)
keeps_reads value (Print e) xs other = (refl, refl)
keeps_reads value (Write e p f q) xs other = (refl, refl)
keeps_reads value (Pack e p f q) xs other = (refl, refl)

pub next_reads_none : {N : Type 0} (value : N → ℤ) (items : List (Statement N)) (i : ℕ) (x : Statement N) →
    i < length items
    → x ≡ get_or items i x → ((name file : List ℕ) → x ≡ Read name file → ⊥)
    → (files_read (statements_of value (drop i items)) ≡ files_read (statements_of value (drop (i + 1) items)))
    × (reads_in (statements_of value (drop i items)) ≡ reads_in (statements_of value (drop (i + 1) items)))
next_reads_none value items i x in_list is other =
    let next = next_of value items i x in_list is in
    let kept = keeps_reads value x (statements_of value (drop (i + 1) items)) other in
    (ap files_read next ∙ kept.0, ap reads_in next ∙ kept.1)

-- after the last statement
pub none_left : {N : Type 0} (value : N → ℤ) (items : List (Statement N)) (i : ℕ) → length items ≤ i
    → files_read (statements_of value (drop i items)) ≡ []
none_left value items i past = ap (λ xs. files_read (statements_of value xs)) (drop_all i items past)

pub none_yet : (done : List Matrix) (n : ℕ) → done ≡ [] → length done + n ≡ n
none_yet done n none = omega (arith, ap length none)

pub one_more : (done : List Matrix) (m : Matrix) (a b all : ℕ) → length done + a ≡ all → a ≡ suc b →
    length (done ++ m ∷ []) + b ≡ all
one_more done m a b all count next = omega (arith, length-append done (m ∷ []), count, next)

pub reads_on : (a b c : State) → OnlyReads a b → OnlyReads b c → OnlyReads a c
reads_on a b c first then = record {
  told = then.told ∙ first.told;
  writing = then.writing ∙ first.writing;
  steady = then.steady ∙ first.steady;
  read_faults = omega (arith, first.read_faults, then.read_faults);
  write_faults = then.write_faults ∙ first.write_faults;
  misses = omega (arith, first.misses, then.misses);
}

pub reads_itself : (needed : List (List ℕ)) (reading : Option Reading) → ReadsOnly needed reading reading
reads_itself needed None = tt
reads_itself needed (Some r) = inl refl

-- the table of the next statement is read
pub table_comes : (bits budget : ℕ) (told : Told) (all left rest : List (List ℕ)) (file name : List ℕ)
    (done more : List Matrix) (m : Matrix)
    (next : List Matrix → Outcome) → left ≡ file ∷ rest → name ≡ file → more ≡ done ++ m ∷ []
    → ReachesRest bits budget told all left done next →
    ((after : Matrix → Outcome) → Reaches (with_table bits budget told name (λ t. after t.matrix)) (after m))
    → ReachesRest bits budget told all rest more next
table_comes bits budget told all left rest file name done more m next a b d so_far read =
    rw d (one_read bits budget told all file rest done m next (rw a at so_far) (rw b at read))

pub table_fails : (bits budget : ℕ) (told : Told) (all left rest : List (List ℕ)) (file name : List ℕ)
    (done : List Matrix)
    (next : List Matrix → Outcome) (e : Unfinished) → left ≡ file ∷ rest → name ≡ file →
    ReachesRest bits budget told all left done next
    → ((after : Matrix → Outcome) → Lets after (with_table bits budget told name (λ t. after t.matrix)) (Err e))
    → Lets next (with_tables bits budget told all next) (Err e)
table_fails bits budget told all left rest file name done next e a b so_far read =
    one_unread next bits budget told all file rest done next e (rw a at so_far)
    (λ after. subst (λ x. Lets after (with_table bits budget told x (λ t. after t.matrix)) (Err e)) b (read after))

pub table_is_needed : (bits budget : ℕ) (told : Told) (all left rest : List (List ℕ)) (file name : List ℕ)
    (done : List Matrix)
    (next : List Matrix → Outcome) (old reading : Option Reading) → left ≡ file ∷ rest → name ≡ file
    → ReachesRest bits budget told all left done next → ReadsNoOther name reading
    → ReadsOnly (with_tables bits budget told all next).needed old reading
table_is_needed bits budget told all left rest file name done next old reading a b so_far no_other =
    one_needed bits budget told all file rest done next old reading (rw a at so_far) (rw b at no_other)

-- the script was read, and then its tables
pub inputs_needed : (bits budget : ℕ) (told : Told) (name : List ℕ) (xs ys : List tree.Statement)
    (old reading : Option Reading) → ys ≡ xs
    → ReadsNoOther name old → Reaches (script_outcome bits budget told name) (reads_outcome bits budget told xs)
    → ((next : List Matrix → Outcome) → ReadsOnly (with_tables bits budget told (files_read ys) next).needed old
    reading)
    → IsNeeded (script_outcome bits budget told name).needed reading
inputs_needed bits budget told name xs ys old reading same no_other on only =
    tables_needed bits budget told name (reads_outcome bits budget told xs) old reading no_other on
    (rw same at only (tables_outcome bits xs))

-- a table isn't read
pub inputs_unread : (bits budget : ℕ) (told : Told) (name : List ℕ) (xs ys : List tree.Statement) (e : Unfinished) →
    ys ≡ xs
    → Reaches (script_outcome bits budget told name) (reads_outcome bits budget told xs)
    → ((next : List Matrix → Outcome) → Lets next (with_tables bits budget told (files_read ys) next) (Err e))
    → Lets (tables_outcome bits xs) (script_outcome bits budget told name) (Err e)
inputs_unread bits budget told name xs ys e same on read =
    let next = tables_outcome bits xs in
    lets_reached next (script_outcome bits budget told name) (reads_outcome bits budget told xs) (Err e) on
    (subst (λ zs. Lets next (with_tables bits budget told (files_read zs) next) (Err e)) same (read next))

tables_reached : (bits budget : ℕ) (told : Told) (name : List ℕ) (xs ys : List tree.Statement) (ms : List Matrix) →
    ys ≡ xs
    → Reaches (script_outcome bits budget told name) (reads_outcome bits budget told xs)
    → ((next : List Matrix → Outcome) → Reaches (with_tables bits budget told (files_read ys) next) (next ms))
    → Reaches (script_outcome bits budget told name) (tables_outcome bits xs ms)
tables_reached bits budget told name xs ys ms same on read =
    let next = tables_outcome bits xs in
    reaches_on (script_outcome bits budget told name) (reads_outcome bits budget told xs) (next ms) on
    (rw same at read next)

-- the checks of its statements pass, or one of them refuses
pub inputs_reached : {T : Type 0} (bits budget : ℕ) (told : Told) (name : List ℕ) (xs ys zs : List tree.Statement)
    (ms ns : List Matrix) (x : T)
    → ys ≡ xs → zs ≡ xs → ns ≡ ms → Reaches (script_outcome bits budget told name) (reads_outcome bits budget told xs)
    → ((next : List Matrix → Outcome) → Reaches (with_tables bits budget told (files_read ys) next) (next ms))
    → Passes {T = T} (λ c. tt) (checked_statements xs ns) (Ok x)
    → Reaches (script_outcome bits budget told name) (statements_outcome bits zs ms)
inputs_reached bits budget told name xs ys zs ms ns x a b d on read passed =
    let next : Unit {0} → Outcome = λ u. statements_outcome bits xs ms in
    rw b (reaches_on (script_outcome bits budget told name) (tables_outcome bits xs ms) (statements_outcome bits xs ms)
    (tables_reached bits budget told name xs ys ms a on read)
    (passes_lets (λ c. tt) next (checked_statements xs ms) (Ok x) (rw d at passed)))

pub inputs_refused : (bits budget : ℕ) (told : Told) (name : List ℕ) (xs ys : List tree.Statement) (ms ns : List Matrix)
    (e : Unfinished)
    → ys ≡ xs → ns ≡ ms → Reaches (script_outcome bits budget told name) (reads_outcome bits budget told xs)
    → ((next : List Matrix → Outcome) → Reaches (with_tables bits budget told (files_read ys) next) (next ms))
    → Passes {T = Unit {0}} (λ u. u) (checked_statements xs ns) (Err e)
    → Lets {T = Unit {0}} (λ u. statements_outcome bits xs ms) (script_outcome bits budget told name) (Err e)
inputs_refused bits budget told name xs ys ms ns e a d on read passed =
    let next : Unit {0} → Outcome = λ u. statements_outcome bits xs ms in
    lets_reached next (script_outcome bits budget told name) (tables_outcome bits xs ms) (Err e)
    (tables_reached bits budget told name xs ys ms a on read)
    (passes_lets (λ (u : Unit {0}). u) next (checked_statements xs ms) (Err e)
    (subst (λ ks. Passes {T = Unit {0}} (λ u. u) (checked_statements xs ks) (Err e)) d passed))

-- the same, as a run of the statements has them
pub reached_as : (bits budget : ℕ) (told : Told) (name : List ℕ) (xs ys : List tree.Statement) (ms ns : List Matrix) →
    ys ≡ xs → ns ≡ ms
    → Reaches (script_outcome bits budget told name) (statements_outcome bits xs ms)
    → Reaches (script_outcome bits budget told name) (statements_outcome bits ys ns)
reached_as bits budget told name xs ys ms ns a b on = rw (a, b) on
